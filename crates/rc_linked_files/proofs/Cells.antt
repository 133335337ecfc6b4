-- The globals of a tree that has a program have few enough cells.
use Rattle.std.specs.Prelude.{◌≡◌, ℕ, ◌+◌, ◌≤◌, List, [], ◌∷◌, ◌++◌, Option, Some, None, Bool, true, false, ◌||◌, is_none, is_some, nat_lt, if◌then◌else◌}
use Rattle.std.proofs.Common.{refl, sym, ap, ◌∙◌, subst, arith}
use Rattle.std.proofs.lemmas.Bool.Decides.{nat_tests}
use Rattle.rc_syntax.specs.declared.tree.Spot.{Spot}
use Rattle.rc_syntax.specs.declared.tree.Name.{Name}
use Rattle.rc_syntax.specs.declared.tree.Constant.{Constant}
use Rattle.rc_syntax.specs.Tree as t
use Rattle.rc_core.specs.Programs.{Program}
use Rattle.rc_deletes.specs.declared.fault.Refusal.TheVariants.{Mistyped, TooBig}
use Rattle.rc_deletes.specs.Judged.{Judged, Holds, Faulty, with_part, failing}
use Rattle.rc_deletes.specs.Kinds.{written_type}
use Rattle.rc_deletes.specs.Scopes.{Context, meaning_in}
use Rattle.rc_deletes.specs.Items.{Outside, at_the_start, context_of, is_empty, once, cell_type, cells_of_global, initial_of, value_or_zero, global_of, Made, behind_item, behind_items, item, items, before_globals, program_of}
use Rattle.rc_deletes.specs.Answer.{IsProgramOf}
use Rattle.rc_judgements.proofs.Held.{Held, held_parts, held_ruled, held_always, held_then, none_failing, not_failing, held_front}
use Rattle.rc_linking.specs.Joined.{joined}
use Rattle.rc_linking.specs.Links.{large, large_of, cells_of}

or_right : (a b : Bool) → (a || b) ≡ false → b ≡ false
or_right true b h = absurd cc
or_right false b h = h

few : (n : ℕ) → nat_lt 1048576 n ≡ false → n ≤ 1048576
few n h = grind (arith, nat_tests)

module _ (context : Context) where
  global_small : (o : Outside) (at : Spot) (ty : t.TypeName) (name : Name) (count : Option ℕ) (c : Option Constant) → Held (λ (m : Made). o.cells + cells_of_global context ty count ≤ 1048576) (item context o (t.global at ty name count c))
  global_small o at ty name count c =
      let initial = initial_of (written_type context.types ty) count c in
      let cells = o.cells + cells_of_global context ty count in
      let P : Made → Type 0 = λ m. cells ≤ 1048576 in
      let named = once name (is_some (meaning_in o.names name.text)) in
      held_parts (λ u. Unit {0}) (λ u. Unit {0}) P (cell_type context o.structs ty) named _ (held_always (Unit {0}) (cell_type context o.structs ty) tt) (held_always (Unit {0}) named tt)
      (λ u v h k. held_ruled P at (failing (is_none initial) Mistyped ++ failing (is_empty count || nat_lt 1048576 cells) TooBig) (record { globals = global_of context ty count (value_or_zero initial) ∷ []; functions = [] })
      (λ e.
      let first = none_failing (is_none initial) Mistyped (failing (is_empty count || nat_lt 1048576 cells) TooBig) e in
      few cells (or_right (is_empty count) (nat_lt 1048576 cells) (not_failing (is_empty count || nat_lt 1048576 cells) TooBig first.1))))

  one_more : (i : t.Item) (is : List t.Item) (o : Outside) → Held (λ (m : Made). (behind_item context o i).cells ≤ 1048576) (item context o i) →
      ((behind_item context o i).cells ≤ 1048576 → Held (λ (m : Made). (behind_items context (behind_item context o i) is).cells ≤ 1048576) (items context (behind_item context o i) is)) → Held (λ (m : Made). (behind_items context o (i ∷ is)).cells ≤ 1048576) (items context o (i ∷ is))
  one_more i is o h rest =
      let after = behind_item context o i in
      let small : Made → Type 0 = λ m. (behind_items context after is).cells ≤ 1048576 in
      held_front small (before_globals context o.structs (i ∷ is)) _
      (held_then (after.cells ≤ 1048576) small small (item context o i) (items context after is) _ h rest (λ a b k q. q))

  cells_small : (is : List t.Item) (o : Outside) → o.cells ≤ 1048576 → Held (λ (m : Made). (behind_items context o is).cells ≤ 1048576) (items context o is)
  cells_small [] o h = h
  cells_small (t.struct at name fields ∷ is) o h = one_more (t.struct at name fields) is o (held_always (o.cells ≤ 1048576) (item context o (t.struct at name fields)) h) (cells_small is (behind_item context o (t.struct at name fields)))
  cells_small (t.global at ty name count c ∷ is) o h = one_more (t.global at ty name count c) is o (global_small o at ty name count c) (cells_small is (behind_item context o (t.global at ty name count c)))
  cells_small (t.function at deletes result name params None ∷ is) o h = one_more (t.function at deletes result name params None) is o (held_always (o.cells ≤ 1048576) (item context o (t.function at deletes result name params None)) h) (cells_small is (behind_item context o (t.function at deletes result name params None)))
  cells_small (t.function at deletes result name params (Some body) ∷ is) o h = one_more (t.function at deletes result name params (Some body)) is o (held_always (o.cells ≤ 1048576) (item context o (t.function at deletes result name params (Some body))) h) (cells_small is (behind_item context o (t.function at deletes result name params (Some body))))

held_of : (is : List t.Item) (C : Type 0) (j : Judged Made) (program : Program) → with_part j (λ made. Holds (program_of is made)) ≡ Holds program → Held (λ (m : Made). C) j → C
held_of is C (Holds m) program h k = k
held_of is C (Faulty f fs) program h k = absurd cc

not_large : (n : ℕ) → n ≤ 1048576 → nat_lt 1048576 n ≡ false
not_large n h = grind (arith, nat_tests)

pub program_small : (trees : List t.Tree) (program : Program) → IsProgramOf (joined trees) program → large_of trees ≡ None
program_small trees program h =
    let is = (joined trees).items in
    let small : cells_of (joined trees) ≤ 1048576 = held_of is (cells_of (joined trees) ≤ 1048576) (items (context_of is) at_the_start is) program h.0 (cells_small (context_of is) is at_the_start (omega arith)) in
    ap (λ b. if b then Some large else None) (not_large (cells_of (joined trees)) small)
