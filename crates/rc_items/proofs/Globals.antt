-- A global whose parts are judged.
use Rattle.std.proofs.Common.{◌≡◌, ◌≤◌, ◌+◌, ℕ, suc, refl, ap, sym, ◌∙◌, subst, arith, List, [], ◌∷◌, ◌++◌, Option, Some, None, Bor, option_map, Bool, true, false, ◌||◌}
use Rattle.std.specs.Prelude.{ℤ, nat_lt, is_none, is_some}
use Rattle.std.proofs.lemmas.Bool.Decides.{nat_tests}
use Rattle.rc_syntax.specs.declared.tree.Spot.{Spot}
use Rattle.rc_syntax.specs.declared.tree.Name.{Name}
use Rattle.rc_syntax.specs.declared.tree.Constant.{Constant}
use Rattle.rc_syntax.specs.Tree as t
use Rattle.rc_core.specs.Types.{Ty}
use Rattle.rc_deletes.specs.declared.fault.Refusal.TheVariants.{Mistyped, TooBig}
use Rattle.rc_deletes.specs.Judged.{Judged, Holds, ruled, failing}
use Rattle.rc_deletes.specs.Kinds.{written_type}
use Rattle.rc_deletes.specs.Scopes.{Context, Scope, a_global, meaning_in}
use Rattle.rc_deletes.specs.Items.{Outside, Made, item, behind_item, with_name, cell_type, once, cells_of_global, global_made, global_of, initial_of, is_empty, value_or_zero}
use Rattle.rc_typed_values.specs.declared.stop.Stop.{Stop}
use Rattle.rc_typed_values.specs.Stops.{StopsAt}
use Rattle.rc_rules.specs.declared.meanings.Meaning.{Meaning as CodeMeaning}
use Rattle.rc_rules.specs.Shapes.{meaning_of}
use Rattle.rc_defined.specs.Contexts.{scope_of}
use Rattle.rc_defined.specs.Sizes.{SameUpTo}
use Rattle.rc_defined.proofs.Stops.{both_ruled}

is_few : (at : Spot) (b e l : Bool) (a m : Made) → ruled at (failing b Mistyped ++ failing (e || l) TooBig) a ≡ Holds m → l ≡ false
is_few at true e l a m h = absurd cc
is_few at false true l a m h = absurd cc
is_few at false false true a m h = absurd cc
is_few at false false false a m h = refl

no_more : (n : ℕ) → nat_lt 1048576 n ≡ false → n ≤ 1048576
no_more n h = grind (arith, nat_tests)

pub total_few : (context : Context) (at : Spot) (n : t.TypeName) (count : Option ℕ) (total : ℕ) (initial : Option ℤ) (m : Made) → global_made context at n count total initial ≡ Holds m → total ≤ 1048576
total_few context at n count total initial m h = no_more total (is_few at (is_none initial) (is_empty count) (nat_lt 1048576 total) _ m h)

module _ (context : Context) (o : Outside) (at : Spot) (n : t.TypeName) (name : Name) (count : Option ℕ) (c : Option Constant) (ty : Ty) (total : ℕ)
    (typed : cell_type context o.structs n ≡ Holds tt) (is : ty ≡ written_type context.types n) (new : once name (is_some (meaning_in o.names name.text)) ≡ Holds tt)
    (same : SameUpTo 1048576 total (o.cells + cells_of_global context n count)) where
  abbrev made : Bool → Option ℤ → Judged Made
  made many initial = ruled at (failing (is_none initial) Mistyped ++ failing (is_empty count || many) TooBig) (record { globals = global_of context n count (value_or_zero initial) ∷ []; functions = [] })

  pub item_is : item context o (t.global at n name count c) ≡ global_made context at n count total (initial_of ty count c)
  item_is =
      both_ruled (cell_type context o.structs n) tt (once name (is_some (meaning_in o.names name.text))) tt (λ u v. global_made context at n count (o.cells + cells_of_global context n count) (initial_of (written_type context.types n) count c)) _ typed new refl
      ∙ ap (λ b. made b (initial_of (written_type context.types n) count c)) (sym same.0)
      ∙ ap (λ u. made (nat_lt 1048576 total) (initial_of u count c)) (sym is)

  pub global_stops : (s : Stop) → StopsAt (global_made context at n count total (initial_of ty count c)) s → StopsAt (item context o (t.global at n name count c)) s
  global_stops s h = subst (λ (x : Judged Made). StopsAt x s) (sym item_is) h

  pub global_held : (z : ℤ) → global_made context at n count total (initial_of ty count c) ≡ Holds (record { globals = global_of context n count z ∷ []; functions = [] }) →
      item context o (t.global at n name count c) ≡ Holds (record { globals = record { ty = ty; count = count; initial = z } ∷ []; functions = [] })
  global_held z h = item_is ∙ h ∙ ap (λ u. Holds (record { globals = record { ty = u; count = count; initial = z } ∷ []; functions = [] })) (sym is)

pub is_known : (names : List (List ℕ × CodeMeaning)) (name : List ℕ) (r : Option (Bor CodeMeaning)) → option_map (λ m. meaning_of m.now) r ≡ meaning_in (scope_of names) name → is_some r ≡ is_some (meaning_in (scope_of names) name)
is_known names name None h = ap is_some h
is_known names name (Some m) h = ap is_some h

pub known_new : (name : Name) (names : Scope) (twice : Bool) → twice ≡ is_some (meaning_in names name.text) → once name twice ≡ Holds tt → once name (is_some (meaning_in names name.text)) ≡ Holds tt
known_new name names twice h k = subst (λ b. once name b ≡ Holds tt) h k

pub global_behind : (context : Context) (o : Outside) (at : Spot) (n : t.TypeName) (name : Name) (count : Option ℕ) (c : Option Constant) (ty again : Ty) (names : Scope) (next total : ℕ) →
    ty ≡ written_type context.types n → again ≡ ty → names ≡ with_name o.names name.text (a_global o.globals again count) → next ≡ suc o.globals → total ≡ o.cells + cells_of_global context n count →
    record o { names = names; globals = next; cells = total } ≡ behind_item context o (t.global at n name count c)
global_behind context o at n name count c ty again names next total is same named counted summed =
    ap (λ ns. record o { names = ns; globals = next; cells = total }) (named ∙ ap (λ u. with_name o.names name.text (a_global o.globals u count)) (same ∙ is))
    ∙ ap (λ k. record o { names = with_name o.names name.text (a_global o.globals (written_type context.types n) count); globals = k; cells = total }) counted
    ∙ ap (λ k. record o { names = with_name o.names name.text (a_global o.globals (written_type context.types n) count); globals = suc o.globals; cells = k }) summed
