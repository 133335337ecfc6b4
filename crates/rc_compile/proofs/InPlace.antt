-- The program of a tree that nothing refuses deletes only in place.
use Rattle.std.proofs.Common.{◌≡◌, ℕ, List, [], ◌∷◌, Option, Some, None, refl, sym, subst}
use Rattle.rc_syntax.specs.Tree as t
use Rattle.rc_core.specs.Deletes.{DeletesInPlace}
use Rattle.rc_core.specs.Programs as p
use Rattle.rc_deletes.specs.declared.deletes.DeletesFault.{DeletesFault}
use Rattle.rc_deletes.specs.Judged.{Holds}
use Rattle.rc_deletes.specs.Items.{Made, at_the_start, context_of, items, program_of}
use Rattle.rc_deletes.specs.Places.{deletes_faults}
use Rattle.rc_deletes.specs.Answer.{IsProgramOf, first_of, first_place, main_fault, main_or}
use Rattle.rc_judgements.proofs.WellTyped.{held_by, of_held}
use Rattle.rc_judgements.proofs.WellTypedBodies.{AllInPlace, AreInPlace, functions_in_place, in_place_at}
use Rattle.rc_compile.specs.Acceptance.{Accepted}

no_place : (faults : List DeletesFault) → first_place faults ≡ None → faults ≡ []
no_place [] is = refl
no_place (f ∷ fs) is = absurd cc

none_misplaced : (main : Option ℕ) (faults : List DeletesFault) → main_or main (first_place faults) ≡ None → faults ≡ []
none_misplaced None faults is = no_place faults is
none_misplaced (Some line) faults is = absurd cc

all_in_place : (is : List t.Item) (made : Made) → items (context_of is) at_the_start is ≡ Holds made → deletes_faults (record { items = is }) (program_of is made) ≡ [] → AllInPlace (program_of is made) (context_of is) made.functions
all_in_place is made held none = of_held (AreInPlace (program_of is made) (context_of is) is) (items (context_of is) at_the_start is) made (functions_in_place (program_of is made) (context_of is) is at_the_start) held [] refl none

-- a program of a tree that nothing refuses deletes in place
pub deletes_in_place : (tree : t.Tree) (program : p.Program) → IsProgramOf tree program → DeletesInPlace program
deletes_in_place tree program is =
    let by = held_by (items (context_of tree.items) at_the_start tree.items) tree.items program is.0 in
    let answered : first_of tree (Holds program) ≡ None = subst (λ x. first_of tree x ≡ None) is.0 is.1 in
    let none : deletes_faults tree program ≡ [] = none_misplaced (main_fault tree.items) (deletes_faults tree program) answered in
    let placed = all_in_place tree.items by.0 by.1 (subst (λ x. deletes_faults tree x ≡ []) (sym by.2) none) in
    subst DeletesInPlace by.2 (record {
      placed = λ k f there. (in_place_at (program_of tree.items by.0) (context_of tree.items) by.0.functions placed k f there).0;
      kept = λ k f there. (in_place_at (program_of tree.items by.0) (context_of tree.items) by.0.functions placed k f there).1;
    })

-- so does a program that is accepted
pub accepted_in_place : (text : List ℕ) (program : p.Program) → Accepted text program → DeletesInPlace program
accepted_in_place text program accepted = deletes_in_place accepted.has_program.tree program accepted.has_program.typed
