-- No marked store that a run of the image comes to would have failed its check.
use Rattle.std.proofs.Common.{◌≡◌, ℕ, Bool, true, false, List, Some, drop, refl, sym, ap, ◌∙◌, subst}
use Rattle.std.specs.Prelude.{slice_get}
use Rattle.std.specs.List.{AllByRecursion as Every}
use Rattle.rc_base.specs.declared.ends.Limits.{Limits}
use Rattle.rc_core.specs.Numbers.{IsByte}
use Rattle.rc_core.specs.Programs.{Program}
use Rattle.rc_core.specs.Runs.{Run, Go, Stopped, bind}
use Rattle.rc_core.specs.Source.{World}
use Rattle.rc_core.specs.WellTyped.{IsWellTyped}
use Rattle.rc_rlang.specs.RegionCode.{Rlang}
use Rattle.rc_rlang.specs.IsRlang.{IsRlang}
use Rattle.rc_rlang.specs.Bounds.{IsWithinBounds}
use Rattle.rc_code.specs.declared.image.Path.{Path}
use Rattle.rc_code.specs.declared.image.Parts.{Parts}
use Rattle.rc_code.specs.declared.instruction.Instruction.TheVariants as instruction
use Rattle.rc_code.specs.Faithful.{MarkIsRight, Faithful}
use Rattle.rc_code.proofs.Marks.{right_where_same}
use Rattle.rc_code.specs.ImageMeaning.{first_held}
use Rattle.rc_code.specs.Running.{Reading, reading_of, path_at, function_at, cell_at, storage_of, value_at, kept, target_on}
use Rattle.rc_code.specs.Steps.{State, Moved, goes, finished, steps_of, first_steps, main_state}
use Rattle.rc_code.specs.StoreModel.{Held, store_model, stored, stored_in}
use Rattle.rc_worlds.specs.Worlds.{Compared, model, watched, trusting, own, tells_apart}
use Rattle.rc_worlds.specs.Facts.{ImageIsSound}
use Rattle.rc_worlds.specs.States.{state_seen, run_seen, MovedSuits}
use Rattle.rc_worlds.proofs.Does.{Excused, IfGoes}
use Rattle.rc_worlds.proofs.Layouts.{own_storage}
use Rattle.rc_worlds.proofs.Reached.{same_steps}
use Rattle.rc_worlds.proofs.Whole.{view_is_sound}
use Rattle.rc_numbering.specs.Numbered.{image_of}
use Rattle.rc_numbering.specs.Small.{IsSmall}
use Rattle.rc_labels.specs.InOrder.{OnlyWhereAsked}
use Rattle.rc_numbering.specs.Programs.{image_of_program}
use Rattle.rc_numbering.proofs.Joined as Joined
use Rattle.rc_unchecked.specs.Regions.{NoMarkedCheckFails, MarkedImagesDoWhatTheirCodeDoes}
use Rattle.rc_unchecked.specs.Right.{MarksAreRight}
use Rattle.rc_translation.specs.Translation.{region_of_program}
use Rattle.rc_unchecked.proofs.Puts.{keeps_turns}
use Rattle.rc_unchecked.proofs.Following.{Follows, first_follow, none_fails}
use Rattle.rc_unchecked.proofs.Right.{right, unfailing_here}
use Rattle.rc_unchecked.proofs.Unchecked as Unchecked

module _ (r : Rlang) (fit : IsRlang r) (small : IsSmall (image_of r)) (marks : (function point : ℕ) → Bool) (only : OnlyWhereAsked r marks) where
  abbrev parts : Parts
  parts = Unchecked.parts r fit small marks only

  module _ (input : List ℕ) (limits : Limits) (well : NoMarkedCheckFails r marks input limits) where
    abbrev image : Compared
    image = Unchecked.unchecked r fit small marks only (Unchecked.apart r fit small marks only input limits well)

    sound : ImageIsSound image
    sound = view_is_sound image (λ ty. refl) (Unchecked.own_sound r fit small marks only (tells_apart image.marks))

    abbrev first : World
    first = Unchecked.first r fit small marks only input limits

    own_written : (own image).code ≡ reading_of parts
    own_written = Unchecked.own_written r fit small marks only (tells_apart image.marks)

    none : (k : ℕ) → Excused image (first_steps (watched image) image.code k first) → ⊥
    none = none_fails image sound (keeps_turns image.code image.name (tells_apart image.marks)) first (Unchecked.none_failed r fit small marks only input limits well)

    module _ (n : ℕ) where
      same_first : (m : Run Held (Unit {0})) → bind m (λ _. steps_of (trusting image.name) image.code n (goes (main_state image.code))) ≡ bind m (λ _. steps_of stored (own image).code n (goes (main_state (own image).code)))
      same_first (Go x w) = same_steps image (λ ty. refl) n (goes (main_state image.code)) w
      same_first (Stopped t w) = refl

      as_written : first_steps (trusting image.name) image.code n (model image.name first) ≡ first_steps stored (reading_of parts) n (first_held (reading_of parts) input limits)
      as_written =
          same_first (store_model.take_turn (model image.name first))
          ∙ ap (λ (code : Reading). bind (store_model.take_turn (model image.name first)) (λ _. steps_of stored code n (goes (main_state code)))) own_written
          ∙ ap (λ w. first_steps stored (reading_of parts) n w) (Joined.first_is_model r fit (Unchecked.numberable r fit small marks only) small input limits)

      follows : Follows image sound (first_steps (watched image) image.code n first) (first_steps (trusting image.name) image.code n (model image.name first))
      follows = first_follow image sound n first (Unchecked.begins r fit small marks only (tells_apart image.marks) input limits) none

      module _ (p : ℕ) where
        abbrev IsRightAt : State Held → Held → Type 0
        IsRightAt s w = slice_get (function_at (reading_of parts) s.function).code s.at ≡ Some (instruction.Store p true) → MarkIsRight (reading_of parts) p s w

        abbrev path : Path
        path = path_at (reading_of parts) p

        same_storage : storage_of image.code (cell_at image.code path) ≡ storage_of (reading_of parts) (cell_at (reading_of parts) path)
        same_storage = sym (own_storage image (λ ty. refl) path) ∙ ap (λ (code : Reading). storage_of code (cell_at code path)) own_written

        by : (m : Run World (Moved World)) → first_steps (watched image) image.code n first ≡ m → IfGoes (MovedSuits image) m → (s : State Held) (w : Held) → run_seen image.name m ≡ Go (goes s) w → IsRightAt s w
        by (Go (goes s0) w0) is suit s w e =
            let es : state_seen image.name s0 ≡ s = cc in
            let ew : model image.name w0 ≡ w = cc in
            subst (λ x. IsRightAt x w) es (subst (λ y. IsRightAt (state_seen image.name s0) y) ew (λ there.
            right_where_same (reading_of parts) p (state_seen image.name s0) (model image.name w0) 0
            (subst (λ storage. stored_in false 0 (target_on path (drop 1 s0.stack)) (kept storage (value_at s0.stack 0)) (model image.name w0) ≡ stored_in true 0 (target_on path (drop 1 s0.stack)) (kept storage (value_at s0.stack 0)) (model image.name w0)) same_storage
            (right image.code image.name (tells_apart image.marks) sound s0 w0 suit p there 0 (unfailing_here image.code image.name (tells_apart image.marks) sound s0 w0 suit p there n first is none 0)))))
        by (Go (finished v) w0) is suit s w e = absurd cc
        by (Stopped t w0) is suit s w e = absurd cc

  pub faithful : ((input : List ℕ) (limits : Limits) → Every IsByte input → NoMarkedCheckFails r marks input limits) → Faithful parts
  faithful never input bytes limits n s w p comes =
      let well = never input limits bytes in
      by input limits well n p (first_steps (watched (image input limits well)) (image input limits well).code n (first input limits well)) refl (follows input limits well n).suits s w
      (sym (follows input limits well n).same ∙ as_written input limits well n ∙ comes)

pub does_what_its_code_does : (r : Rlang) → IsRlang r → IsSmall (image_of r) → MarkedImagesDoWhatTheirCodeDoes r
does_what_its_code_does r fit small marks = record {
  bare = Unchecked.bare_means r fit small marks;
  marked = λ only input limits well. Unchecked.means_its_code r fit small marks only input limits well;
  faithful = λ only never. faithful r fit small marks only never;
}

pub marks_are_right : (program : Program) → IsWellTyped program → IsWithinBounds program → IsSmall (image_of_program program) → MarksAreRight program
marks_are_right program typed bounds small marks may_go =
    faithful (region_of_program program) (Unchecked.fit program typed bounds small) small marks (Unchecked.only program typed marks may_go) (Unchecked.none_fails program typed marks may_go)
