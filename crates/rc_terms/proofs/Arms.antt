-- Nodes whose parts are walked one after the other, each after the strings of those before it.
use Rattle.std.proofs.Common.{◌≡◌, ℕ, refl, ap, sym, ◌∙◌, subst, List, ◌++◌, Vec}
use Rattle.std.specs.declared.alloc.Global.{Global as Alloc}
use Rattle.rc_syntax.specs.declared.tree.Spot.{Spot}
use Rattle.rc_syntax.specs.declared.tree.Name.{Name}
use Rattle.rc_syntax.specs.declared.tree.Expr.{Expr, Call}
use Rattle.rc_syntax.specs.Tree as t
use Rattle.rc_syntax.specs.Shape as written
use Rattle.rc_syntax.proofs.Rows.{call_is}
use Rattle.rc_core.specs.Types.{int, region}
use Rattle.rc_deletes.specs.Judged.{Judged, Holds, Faulty, with_part, with_parts, both}
use Rattle.rc_deletes.specs.Scopes.{Context, Scope}
use Rattle.rc_deletes.specs.Values.{Typed, fitted}
use Rattle.rc_deletes.specs.Operators.{meaning_of_value, conditional_rule}
use Rattle.rc_deletes.specs.Calls.{allocation, array_allocation}
use Rattle.rc_deletes.specs.Expressions.{meant, value, strings_in, type_rule}
use Rattle.rc_defined.proofs.Stops.{all_ruled}

-- a node with three parts, of which two are judged
two_held : {A B C D : Type 0} (x : Judged A) (y : Judged B) (z : Judged C) (rule : A → B × C → Judged D) (a : A) (b : B) → x ≡ Holds a → y ≡ Holds b → with_parts x (both y z) rule ≡ with_part z (λ c. rule a (b, c))
two_held x y (Holds c) rule a b h k = rw (h, k) refl
two_held x y (Faulty f fs) rule a b h k = rw (h, k) refl

first_held : {A B C : Type 0} (x : Judged A) (y : Judged B) (rule : A → B → Judged C) (a : A) → x ≡ Holds a → with_parts x y rule ≡ with_part y (rule a)
first_held x y rule a h = rw h refl

module _ (context : Context) (names : Scope) (before : List (List ℕ)) where
  -- memory in a region
  pub alloc_is : (at : Spot) (x : t.Expr) (n : t.TypeName) (v : Typed) → value context names before x ≡ Holds v → meant context names before (t.ralloc at x n) ≡ with_part (type_rule context n) (λ u. meaning_of_value (allocation at u (fitted region v)))
  alloc_is at x n v held = first_held (value context names before x) (type_rule context n) (λ v u. meaning_of_value (allocation at u (fitted region v))) v held

  -- two values, the second behind the strings of the first
  module _ (x y : t.Expr) (v : Typed) (now : List (List ℕ)) (held : value context names before x ≡ Holds v) (grown : now ≡ before ++ strings_in x) where
    there : (w : Typed) → value context names now y ≡ Holds w → value context names (before ++ strings_in x) y ≡ Holds w
    there w h = subst (λ ss. value context names ss y ≡ Holds w) grown h

    strings_there : (all : List (List ℕ)) → all ≡ now ++ strings_in y → all ≡ before ++ strings_in x ++ strings_in y
    strings_there all h = h ∙ ap (λ ss. ss ++ strings_in y) grown

    module _ (at : Spot) (n : t.TypeName) where
      pub array_is : (w : Typed) → value context names now y ≡ Holds w → meant context names before (t.rarrayalloc at x y n) ≡ with_part (type_rule context n) (λ u. meaning_of_value (array_allocation at u (fitted region v) (fitted int w)))
      array_is w h = two_held (value context names before x) (value context names (before ++ strings_in x) y) (type_rule context n) (λ v w. meaning_of_value (array_allocation at w.1 (fitted region v) (fitted int w.0))) v w held (there w h)

    -- and a third behind both
    module _ (at : Spot) (z : t.Expr) where
      module _ (w : Typed) (all : List (List ℕ)) (second : value context names now y ≡ Holds w) (more : all ≡ now ++ strings_in y) where
        pub choice_is : (u : Typed) → value context names all z ≡ Holds u → meant context names before (t.conditional at x y z) ≡ meaning_of_value (conditional_rule at v w u)
        choice_is u h = all_ruled (value context names before x) v (value context names (before ++ strings_in x) y) w (value context names (before ++ strings_in x ++ strings_in y) z) u (λ u vw. meaning_of_value (conditional_rule at u vw.0 vw.1)) (meaning_of_value (conditional_rule at v w u)) held (there w second)
            (subst (λ ss. value context names ss z ≡ Holds u) (strings_there all more) h) refl

-- the arguments of the code, which lie in a buffer
pub call_written : (e : Expr) (n : Name) (v : Vec Expr Alloc) (es : List Expr) → e ≡ Call n v → es ≡ v.items → written.expr_of e ≡ t.call n (written.exprs_of es)
call_written e n v es is items = call_is e n v is ∙ ap (λ xs. t.call n (written.exprs_of xs)) (sym items)
