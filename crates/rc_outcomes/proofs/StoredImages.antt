-- What is stored of a program does by `exec` what the program means: an image's marks are taken away when it is loaded, and with all its
-- checks it means what the program means.
use Rattle.std.proofs.Common.{◌≡◌, ◌≤◌, ◌↔◌, ◌∙◌, ℕ, List, length, Option, Some, None, Ok, refl, sym, ap, subst}
use Rattle.std.specs.List.{AllByRecursion as Every}
use Rattle.rc_base.specs.Shelves.{Names}
use Rattle.rc_base.specs.declared.ends.Limits.{Limits}
use Rattle.rc_code.specs.Image.{FieldsFit}
use Rattle.rc_code.specs.ImageMeaning.{image_left, image_meaning}
use Rattle.rc_code.specs.Soundness.{Sound}
use Rattle.rc_code.specs.declared.image.Parts.{Parts}
use Rattle.rc_core.specs.Meaning.{Left, Meaning, left, meaning}
use Rattle.rc_core.specs.Numbers.{IsByte}
use Rattle.rc_core.specs.Programs.{Program}
use Rattle.rc_core.specs.Runs.{Stop}
use Rattle.rc_core.specs.WellTyped.{IsWellTyped}
use Rattle.rc_image.specs.Spelling.{spelling}
use Rattle.rc_image.specs.declared.version.Version.TheVariants.{Two}
use Rattle.rc_numbering.specs.Programs.{image_of_program}
use Rattle.rc_numbering.proofs.Joined.{image_leaves, image_means}
use Rattle.rc_loader.specs.Unmarked.{unmarked}
use Rattle.rc_marks.proofs.Bare.{bare_image}
use Rattle.rc_marks.proofs.Kept.{marked_fields_fit, marked_sound}
use Rattle.rc_marks.specs.InOrder.{mask_of}
use Rattle.rc_numbering.proofs.Programs.{program_is_numberable}
use Rattle.rc_translation.proofs.RulesTheorem.{fits_together}
use Rattle.rc_rlang.specs.RegionCode.{Rlang}
use Rattle.rc_translation.specs.Translation.{region_of_program}
use Rattle.rc_compile.proofs.Texts.{well_typed}
use Rattle.rc_linked_texts.proofs.Ranges.{linked_well_typed}
use Rattle.rc_linking.specs.Joined.{joined}
use Rattle.rc_compile.proofs.InPlace.{accepted_in_place, deletes_in_place}
use Rattle.rc_rlang.specs.Bounds.{IsWithinBounds}
use Rattle.rc_core.specs.Deletes.{DeletesInPlace}
use Rattle.rc_outcomes.specs.Compiled.{HasCompiled, HasLinked, RunsAs, RunsTheSame}
use Rattle.rc_outcomes.specs.StoredPrograms.{IsUnder}
use Rattle.rc_outcomes.specs.Images.{alone, carried_by}
use Rattle.rc_outcomes.specs.Outcome.{Executes, IsOutcome, OfRead, Outcome, Runs, accepts, as_left, bare, came, end_as, unpinned}
use Rattle.rc_outcomes.proofs.OneOutcome.{one_outcome, one_run, run_of}
use Rattle.rc_outcomes.proofs.CarriedImages.{carried_image}
use Rattle.rc_requests.specs.Request.{Exec, Run}

module _ (files : Names) (to : List ℕ) (program : Program) (well : IsWellTyped program) (in_place : DeletesInPlace program) (bounds : IsWithinBounds program) (stored : IsUnder to files program) (short : length (spelling Two stored.image) ≤ 268435456) where
  abbrev r : Rlang
  r = region_of_program program

  fields_fit : FieldsFit stored.image
  fields_fit = subst FieldsFit (sym stored.has.compiled.is) (marked_fields_fit r (mask_of stored.has.compiled.marks r) (fits_together program well bounds) (program_is_numberable program well) stored.has.small)

  is_sound : Sound stored.image
  is_sound = subst Sound (sym stored.has.compiled.is) (marked_sound r (mask_of stored.has.compiled.marks r) (program_is_numberable program well))

  without_marks : unmarked stored.image ≡ image_of_program program
  without_marks = ap unmarked stored.has.compiled.is ∙ bare_image r (mask_of stored.has.compiled.marks r)

  is_read : carried_by (spelling Two stored.image) ≡ Ok (alone stored.image)
  is_read = carried_image (spelling Two stored.image) (alone stored.image) short (record { fields = fields_fit; version = Two; spelled = refl })

  module _ (input : List ℕ) (limits : Limits) (bytes : Every IsByte input) where
    means : image_meaning (unmarked stored.image) input limits ≡ meaning program input limits
    means = ap (λ (image : Parts). image_meaning image input limits) without_marks ∙ image_means program well bounds stored.has.small input limits bytes

    leaves : image_left (unmarked stored.image) input limits ≡ left program input limits
    leaves = ap (λ (image : Parts). image_left image input limits) without_marks ∙ image_leaves program well bounds stored.has.small input limits bytes

    run : (outcome : Outcome) × Runs as_left limits input program outcome
    run = run_of as_left limits input program in_place

    comes : run.0 ≡ came (image_meaning (unmarked stored.image) input limits) (unpinned limits (image_left (unmarked stored.image) input limits))
    comes =
        run.1.comes
        ∙ ap (λ (stop : Stop). record { done = end_as stop; acts = (meaning program input limits).acts; stored = None; left = as_left program input limits }) (sym run.1.ends)
        ∙ ap (λ (m : Meaning). came m (as_left program input limits)) (sym means)
        ∙ ap (λ (l : Option Left). came (image_meaning (unmarked stored.image) input limits) (unpinned limits l)) (sym leaves)

    executes : IsOutcome (Some (Exec to limits)) files input run.0
    executes = (spelling Two stored.image, stored.there, subst (λ read. OfRead (Executes limits) read input run.0) (sym is_read) (record { admitted = Ok (unmarked stored.image); admits = bare refl is_sound; comes = comes }))

  runs_as : RunsAs files to program
  runs_as input limits bytes outcome = (
    λ is. subst (λ (o : Outcome). Runs as_left limits input program o) (one_outcome (Some (Exec to limits)) files input (run input limits bytes).0 outcome (executes input limits bytes) is) (run input limits bytes).1,
    λ is. subst (λ (o : Outcome). IsOutcome (Some (Exec to limits)) files input o) (one_run as_left limits input (run input limits bytes).0 outcome program (run input limits bytes).1 is) (executes input limits bytes),
  )

-- that of a text does what the text does by `run`
pub runs_the_same : (files : Names) (from to : List ℕ) → HasCompiled files from to → RunsTheSame files from to
runs_the_same files from to has input limits bytes outcome = (
  λ is. (has.text, has.from_has, accepts has.program has.accepted (both.0 is)),
  λ is. both.1 (subst (λ (o : Outcome). Runs as_left limits input has.program o) (one_outcome (Some (Run from limits)) files input run.0 outcome (has.text, has.from_has, accepts has.program has.accepted run.1) is) run.1),
) where
  in_place : DeletesInPlace has.program
  in_place = accepted_in_place has.text has.program has.accepted

  both : IsOutcome (Some (Exec to limits)) files input outcome ↔ Runs as_left limits input has.program outcome
  both = runs_as files to has.program (well_typed has.text has.program has.bytes has.accepted) in_place has.accepted.bounds has.stored has.short input limits bytes outcome

  run : (outcome : Outcome) × Runs as_left limits input has.program outcome
  run = run_of as_left limits input has.program in_place

-- that of several texts what their program means
pub linked_runs_as : (files : Names) (to : List ℕ) → (has : HasLinked files to) → RunsAs files to has.program
linked_runs_as files to has =
    runs_as files to has.program (linked_well_typed has.texts has.program has.few has.bytes has.together) (deletes_in_place (joined has.together.trees) has.program has.together.typed) has.bounds has.stored has.short
