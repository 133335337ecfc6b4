-- Small files, and what is answered of them alone and together.
use Rattle.std.specs.Prelude.{◌≡◌, ℕ, List, [], ◌∷◌, Option, Some, None, false, codes}
use Rattle.rc_syntax.specs.declared.tree.Spot.{Spot}
use Rattle.rc_syntax.specs.declared.tree.Name.{Name}
use Rattle.rc_syntax.specs.declared.tree.Base.TheVariants as base
use Rattle.rc_syntax.specs.declared.tree.BinaryOp.TheVariants.{Add}
use Rattle.rc_syntax.specs.Tree as t
use Rattle.rc_deletes.specs.declared.fault.Refusal.TheVariants.{Unknown}
use Rattle.rc_deletes.specs.Answer.{refusal, at_node, at_main}
use Rattle.rc_linking.specs.Joined.{joined}
use Rattle.rc_linking.specs.Stubs.{stubbed}
use Rattle.rc_linking.specs.Links.{disagree, double, missing, entry, large, link_refusal}

abbrev at : ℕ → Spot
at n = record { place = n; line = 1 }

abbrev named : ℕ → List ℕ → Name
named n text = record { spot = at n; text = text }

abbrev int_at : ℕ → t.TypeName
int_at n = record { base = base.Int (at n); stars = [] }

abbrev unsigned_at : ℕ → t.TypeName
unsigned_at n = record { base = base.Unsigned (at n); stars = [] }

abbrev an_x : ℕ → List t.Param
an_x n = record { spot = at n; type_name = int_at n; name = Some (named n (codes "x")) } ∷ []

abbrev giving : t.Expr → Option t.Stmts
giving e = Some (t.next (t.return_with (at 9) (Some e)) t.done)

abbrev main_of : t.Expr → t.Item
main_of e = t.function (at 8) false (Some (int_at 8)) (named 9 (codes "main")) [] (giving e)

-- int twice(int x); int main(void) { return twice(21); }
abbrev pub a : t.Tree
a = record { items = t.function (at 0) false (Some (int_at 0)) (named 1 (codes "twice")) (an_x 3) None ∷ main_of (t.call (named 14 (codes "twice")) (t.more (t.number (at 16) 21 false) t.none)) ∷ [] }

-- int twice(int x) { return x + x; }
abbrev pub b : t.Tree
b = record { items = t.function (at 0) false (Some (int_at 0)) (named 1 (codes "twice")) (an_x 3) (giving (t.binary (at 8) Add (t.variable (named 8 (codes "x"))) (t.variable (named 10 (codes "x"))))) ∷ [] }

-- unsigned twice(int x) { return 1; }
abbrev pub c : t.Tree
c = record { items = t.function (at 0) false (Some (unsigned_at 0)) (named 1 (codes "twice")) (an_x 3) (giving (t.number (at 8) 1 false)) ∷ [] }

-- int twice(int x) { return y; }
abbrev pub d : t.Tree
d = record { items = t.function (at 0) false (Some (int_at 0)) (named 1 (codes "twice")) (an_x 3) (giving (t.variable (named 8 (codes "y")))) ∷ [] }

-- int x[1048576];
abbrev pub p : t.Tree
p = record { items = t.global (at 1) (int_at 0) (named 1 (codes "x")) (Some 1048576) None ∷ [] }

-- int y[1048576]; int main(void) { return 0; }
abbrev pub q : t.Tree
q = record { items = t.global (at 1) (int_at 0) (named 1 (codes "y")) (Some 1048576) None ∷ main_of (t.number (at 14) 0 false) ∷ [] }

-- int main(int x);
abbrev pub m : t.Tree
m = record { items = t.function (at 0) false (Some (int_at 0)) (named 1 (codes "main")) (an_x 3) None ∷ [] }

-- each by itself, and together
pub record ExamplesCompute : Type 0 where
  pub alone_a : refusal (stubbed 1 a) ≡ None
  pub alone_b : refusal (stubbed 1 b) ≡ None
  pub alone_d : refusal (stubbed 1 d) ≡ Some (at_node Unknown 1)
  pub alone_m : refusal (stubbed 7 m) ≡ Some (at_main 7)
  pub both : link_refusal (a ∷ b ∷ []) ≡ None
  pub both_typed : refusal (joined (a ∷ b ∷ [])) ≡ None
  pub only_a : link_refusal (a ∷ []) ≡ Some (missing 1 1)
  pub only_b : link_refusal (b ∷ []) ≡ Some entry
  pub b_twice : link_refusal (a ∷ b ∷ b ∷ []) ≡ Some (double 3 1)
  pub a_and_c : link_refusal (a ∷ c ∷ []) ≡ Some (disagree 2 1)
  pub p_and_q : link_refusal (p ∷ q ∷ []) ≡ Some large
