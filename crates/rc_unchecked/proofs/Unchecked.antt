-- The image with marks does over a store what region code with marked stores does over the source's world. Where that is the run of the region
-- code, the image means what the code means; so it is of a program whose marks are at checks that may go.
use Rattle.std.proofs.Common.{◌≡◌, ℕ, zero, suc, Bool, true, false, List, [], ◌∷◌, ◌++◌, map, get_or, refl, sym, ap, ◌∙◌, subst}
use Rattle.std.specs.List.{AllByRecursion as Every}
use Rattle.rc_base.specs.declared.ends.Limits.{Limits}
use Rattle.rc_core.specs.Numbers.{IsByte}
use Rattle.rc_core.specs.Heap.{Value}
use Rattle.rc_core.specs.Programs.{Program}
use Rattle.rc_core.specs.Runs.{Run, Go, Stopped, Ends, Stale}
use Rattle.rc_core.specs.Source.{World, source}
use Rattle.rc_core.specs.WellTyped.{IsWellTyped}
use Rattle.rc_rlang.specs.declared.order.Order.TheVariants.{Points}
use Rattle.rc_rlang.specs.RegionCode.{Routine, Rlang}
use Rattle.rc_rlang.specs.IsRlang.{IsRlang}
use Rattle.rc_rlang.specs.Bounds.{IsWithinBounds}
use Rattle.rc_rlang.specs.RegionRuns.{run_main}
use Rattle.rc_rlang.specs.Sites.{Site, code_sites}
use Rattle.rc_translation.specs.Translation.{region_of_program}
use Rattle.rc_translation.proofs.Theorem.{region_code_means}
use Rattle.rc_translation.proofs.RulesTheorem as Region
use Rattle.rc_annotations.specs.Heights.{temporaries_of}
use Rattle.rc_emission.proofs.SourceTurns.{source_turns}
use Rattle.rc_checks.proofs.Whole.{removed_never_fail}
use Rattle.rc_code.specs.declared.image.Parts.{Parts}
use Rattle.rc_code.specs.Running.{Reading, reading_of}
use Rattle.rc_code.specs.Running as Code
use Rattle.rc_code.specs.Soundness.{ReadingIsSound}
use Rattle.rc_code.specs.StoreModel.{stored}
use Rattle.rc_code.specs.ImageMeaning.{first_held, image_run}
use Rattle.rc_code.specs.ImageMeaning as Image
use Rattle.rc_worlds.specs.Worlds.{Compared, model, watched, watched_put, mapped, own, marks_checked}
use Rattle.rc_worlds.specs.Typed.{Good}
use Rattle.rc_worlds.specs.Facts.{ImageIsSound}
use Rattle.rc_worlds.proofs.Does.{Excused}
use Rattle.rc_worlds.proofs.Whole.{image_runs}
use Rattle.rc_worlds.proofs.Begins.{image_is_sound}
use Rattle.rc_worlds.proofs.First.{first_is_good}
use Rattle.rc_numbering.specs.Means.{view_of, IsNumberable}
use Rattle.rc_numbering.specs.Numbered.{image_of}
use Rattle.rc_numbering.proofs.Programs.{rlang_is_numberable}
use Rattle.rc_numbering.proofs.SourceWaits.{waiting, source_waits}
use Rattle.rc_numbering.specs.Small.{IsSmall}
use Rattle.rc_marks.proofs.Kept.{marked_sound, marked_fields_fit}
use Rattle.rc_marks.specs.InOrder.{functions_marks, mask_of}
use Rattle.rc_marks.specs.Marked.{marked_image}
use Rattle.rc_marks.proofs.MarksCounted.{no_marks}
use Rattle.rc_labels.specs.InOrder.{OnlyWhereAsked}
use Rattle.rc_labels.proofs.Asked.{only_where_asked}
use Rattle.rc_labels.proofs.MarkedImages.{does_what_marked_code_does}
use Rattle.rc_numbering.specs.Programs.{image_of_program}
use Rattle.rc_numbering.specs.Regions.{region_world}
use Rattle.rc_numbering.proofs.Joined as Joined
use Rattle.rc_unchecked.specs.Regions.{NoMarkedCheckFails, MeansItsCode, BareMeansItsCode}
use Rattle.rc_unchecked.specs.Unchecked.{image_with, MayGo, MeansTheSameUnchecked, LeavesTheSameUnchecked}
use Rattle.rc_unchecked.proofs.Trusted.{trusting}
use Rattle.rc_unchecked.proofs.Puts.{makes_no_turns, keeps_waiting}

-- a dead region is touched
abbrev pub is_stale : Run World Value → Bool
is_stale (Go v w) = false
is_stale (Stopped (Ends end) w) = false
is_stale (Stopped (Stale line) w) = true

module _ (r : Rlang) (fit : IsRlang r) (small : IsSmall (image_of r)) (marks : (function point : ℕ) → Bool) (only : OnlyWhereAsked r marks) where
  abbrev pub parts : Parts
  parts = marked_image (mask_of marks r) r

  pub numberable : IsNumberable r
  numberable = rlang_is_numberable r fit

  -- the image with its marks, and with the source's layouts, beside a store that calls types by their numbers
  abbrev pub unchecked : (apart : Bool) → Compared
  unchecked apart = record (Joined.image r fit numberable small) { code = record (view_of r) { parts = parts }; marks = marks_checked apart }

  pub own_written : (apart : Bool) → (own (unchecked apart)).code ≡ reading_of parts
  own_written apart = ap (λ (code : Reading). record code { parts = parts }) (Joined.own_is_written r fit numberable small)

  pub own_sound : (apart : Bool) → ImageIsSound (own (unchecked apart))
  own_sound apart = image_is_sound parts (marked_fields_fit r (mask_of marks r) fit numberable small) (own (unchecked apart)) (own_written apart) (subst (ReadingIsSound true) (sym (own_written apart)) (marked_sound r (mask_of marks r) numberable))

  abbrev pub first : (input : List ℕ) → Limits → World
  first input limits = region_world r input limits

  -- its structs, globals and strings are all that a first world is made of
  abbrev bare : Program
  bare = record { structs = r.structs; globals = r.globals; strings = r.strings; functions = []; main = 0 }

  pub begins : (apart : Bool) (input : List ℕ) (limits : Limits) → Good (unchecked apart) (first input limits)
  begins apart input limits = first_is_good (unchecked apart) refl bare input limits (Joined.globals_there r fit numberable small)

  module _ (input : List ℕ) (limits : Limits) (well : NoMarkedCheckFails r marks input limits) where
    -- over the source's world it does what the region code does
    pub same_run : (apart : Bool) → Code.run_main (watched (unchecked apart)) (unchecked apart).code (first input limits) ≡ run_main source r (first input limits)
    same_run apart =
        does_what_marked_code_does (watched (unchecked apart)) waiting source_turns (makes_no_turns apart) source_waits (keeps_waiting apart) r numberable marks only (first input limits)
        ∙ well (watched_put apart) (trusting apart)

    -- a check that is left out and fails would stop the run otherwise than it stops
    abbrev pub apart : Bool
    apart = is_stale (run_main source r (first input limits))

    -- so no such check fails
    pub none_failed : Excused (unchecked apart) (Code.run_main (watched (unchecked apart)) (unchecked apart).code (first input limits)) → ⊥
    none_failed = subst (λ (m : Run World Value). Excused (unchecked apart) m → ⊥) (sym (same_run apart)) (by (run_main source r (first input limits)))
      where
        by : (m : Run World Value) → Excused (unchecked (is_stale m)) m → ⊥
        by (Go v w) x = x
        by (Stopped (Ends end) w) x = let e = x.2.1 in cc
        by (Stopped (Stale line) w) x = let e = x.2.1 in cc

    pub runs : image_run parts input limits ≡ mapped (unchecked apart) (run_main source r (first input limits))
    runs =
        ap (λ w. Code.run_main stored (reading_of parts) w) (sym (Joined.first_is_model r fit numberable small input limits))
        ∙ ap (λ code. Code.run_main stored code (model (unchecked apart).name (first input limits))) (sym (own_written apart))
        ∙ image_runs (unchecked apart) (λ ty. refl) (own_sound apart) (first input limits) (begins apart input limits) none_failed
        ∙ ap (mapped (unchecked apart)) (same_run apart)

    pub means_its_code : MeansItsCode r parts input limits
    means_its_code = (
      ap (Image.meaning_of_run input) runs ∙ Joined.same_meaning r fit numberable small input (run_main source r (first input limits)),
      ap Image.left_by_run runs ∙ Joined.same_left r fit numberable small (run_main source r (first input limits)),
    )

-- without marks the image is that of the code

module _ (r : Rlang) (marks : (function point : ℕ) → Bool) (none : (g p : ℕ) → marks g p ≡ false) where
  abbrev NoBits : List Bool → Type 0
  NoBits bits = (n : ℕ) → get_or bits n false ≡ false

  behind : (bits more : List Bool) → NoBits bits → NoBits more → NoBits (bits ++ more)
  behind [] more a b n = b n
  behind (x ∷ bits) more a b zero = a 0
  behind (x ∷ bits) more a b (suc n) = behind bits more (λ k. a (suc k)) b n

  at_sites : (g : ℕ) (sites : List Site) → NoBits (map (λ (s : Site). marks g s.point) sites)
  at_sites g [] n = refl
  at_sites g (s ∷ sites) zero = none g s.point
  at_sites g (s ∷ sites) (suc n) = at_sites g sites n

  in_functions : (g : ℕ) (fs : List Routine) → NoBits (functions_marks marks g fs)
  in_functions g [] n = refl
  in_functions g (f ∷ fs) n = behind (map (λ (s : Site). marks g s.point) (code_sites Points f.body 1)) (functions_marks marks (suc g) fs) (at_sites g (code_sites Points f.body 1)) (in_functions (suc g) fs) n

  pub bare_image : marked_image (mask_of marks r) r ≡ image_of r
  bare_image = let same : mask_of marks r ≡ (λ n. false) = λ i n. in_functions 0 r.functions n i in ap (λ (mask : ℕ → Bool). marked_image mask r) same ∙ no_marks r

pub bare_means : (r : Rlang) → IsRlang r → IsSmall (image_of r) → (marks : (function point : ℕ) → Bool) → BareMeansItsCode r marks (marked_image (mask_of marks r) r)
bare_means r fit small marks none input limits =
    let numberable = rlang_is_numberable r fit in
    subst (λ image. MeansItsCode r image input limits) (sym (bare_image r marks none)) (Joined.region_means r fit numberable small input limits, Joined.region_leaves r fit numberable small input limits)

-- of a program, whose marks are at checks that may go

module _ (program : Program) (typed : IsWellTyped program) (marks : (function point : ℕ) → Bool) (may_go : MayGo program marks) where
  abbrev code : Rlang
  code = region_of_program program

  pub only : OnlyWhereAsked code marks
  only = only_where_asked code (temporaries_of code) marks may_go

  pub none_fails : (input : List ℕ) (limits : Limits) → Every IsByte input → NoMarkedCheckFails code marks input limits
  none_fails input limits bytes put trusting = removed_never_fail program typed input limits bytes marks may_go put trusting

module _ (program : Program) (typed : IsWellTyped program) (bounds : IsWithinBounds program) (small : IsSmall (image_of_program program)) where
  pub fit : IsRlang (region_of_program program)
  fit = Region.fits_together program typed bounds

  of_program : (marks : (function point : ℕ) → Bool) → MayGo program marks → (input : List ℕ) (limits : Limits) → Every IsByte input → MeansItsCode (region_of_program program) (image_with marks program) input limits
  of_program marks may_go input limits bytes = means_its_code (region_of_program program) fit small marks (only program typed marks may_go) input limits (none_fails program typed marks may_go input limits bytes)

  pub means_the_same : MeansTheSameUnchecked program
  means_the_same marks may_go input limits bytes = (of_program marks may_go input limits bytes).0 ∙ (region_code_means program typed input limits bytes).0

  pub leaves_the_same : LeavesTheSameUnchecked program
  leaves_the_same marks may_go input limits bytes = (of_program marks may_go input limits bytes).1 ∙ (region_code_means program typed input limits bytes).1
