-- Assignments whose sides are judged.
use Rattle.std.proofs.Common.{◌≡◌, refl, subst, List, ◌++◌, ℕ}
use Rattle.rc_syntax.specs.declared.tree.Spot.{Spot}
use Rattle.rc_syntax.specs.declared.tree.BinaryOp.{BinaryOp}
use Rattle.rc_syntax.specs.Tree as t
use Rattle.rc_deletes.specs.Judged.{Holds, with_part, fitting}
use Rattle.rc_deletes.specs.Scopes.{Context, Scope}
use Rattle.rc_deletes.specs.Values.{Meant, Typed, spot_of}
use Rattle.rc_deletes.specs.Expressions.{meant, value, strings_in}
use Rattle.rc_deletes.specs.Statements.{simple, RightSide, right_side, assignment, update_of}
use Rattle.rc_defined.proofs.Stops.{both_ruled}

module _ (context : Context) (names : Scope) (before before1 : List (List ℕ)) (at : Spot) (l r : t.Expr) (m : Meant) (left : meant context names before l ≡ Holds m) (grown : before1 ≡ before ++ strings_in l) where
  pub assign_is : (w : RightSide) → with_part (meant context names before1 r) (right_side (spot_of r)) ≡ Holds w → simple context names before (t.assign at l r) ≡ fitting at (assignment context at.line m w)
  assign_is w k =
      both_ruled (meant context names before l) m (with_part (meant context names (before ++ strings_in l) r) (right_side (spot_of r))) w (λ m w. fitting at (assignment context at.line m w)) (fitting at (assignment context at.line m w)) left
      (subst (λ ss. with_part (meant context names ss r) (right_side (spot_of r)) ≡ Holds w) grown k) refl

  pub update_is : (op : BinaryOp) (v : Typed) → value context names before1 r ≡ Holds v → simple context names before (t.update at op l r) ≡ fitting at (update_of at.line (spot_of l).line op m v)
  update_is op v k =
      both_ruled (meant context names before l) m (value context names (before ++ strings_in l) r) v (λ m v. fitting at (update_of at.line (spot_of l).line op m v)) (fitting at (update_of at.line (spot_of l).line op m v)) left
      (subst (λ ss. value context names ss r ≡ Holds v) grown k) refl
