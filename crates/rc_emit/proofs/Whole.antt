-- The image without needless checks of a program's region code means what the program means.
use Rattle.std.proofs.Common.{◌≡◌, ℕ, Bool, Result, Ok, Err, sym, subst}
use Rattle.std.specs.Prelude.{IfOk}
use Rattle.rc_core.specs.Programs.{Program}
use Rattle.rc_core.specs.WellTyped.{IsWellTyped}
use Rattle.rc_rlang.specs.Bounds.{IsWithinBounds}
use Rattle.rc_rlang.specs.RegionCode.{Rlang}
use Rattle.rc_translation.specs.Translation.{region_of_program}
use Rattle.rc_code.specs.Soundness.{Sound}
use Rattle.rc_code.specs.declared.image.Parts.{Parts}
use Rattle.rc_elim.specs.Masks.{MarksRemovable}
use Rattle.rc_marks.specs.InOrder.{mask_of}
use Rattle.rc_marks.specs.Marked.{marked_image}
use Rattle.rc_numbering.specs.Numbered.{image_of}
use Rattle.rc_numbering.specs.Small.{IsSmall}
use Rattle.rc_numbering.specs.Programs.{image_of_program}
use Rattle.rc_unchecked.specs.Unchecked.{MayGo}
use Rattle.rc_unchecked.specs.Compiled.{IsCompiled}
use Rattle.rc_unchecked.proofs.Unchecked.{means_the_same, leaves_the_same}
use Rattle.rc_emit.specs.Compiled.{IsWithoutNeedlessChecks}
use Rattle.rc_unchecked.specs.Images.{HasMeaningOf}

pub is_compiled : (program : Program) (image : Parts) → IsWithoutNeedlessChecks (region_of_program program) image → IsCompiled program image
is_compiled program image made = record { marks = made.marks; removable = made.removable; is = made.is }

-- each mark is at a check that may go
pub may_go : (program : Program) (image : Parts) (compiled : IsCompiled program image) → MayGo program compiled.marks
may_go program image compiled g p e = (compiled.removable g p).0 e

pub means : (program : Program) (image : Parts) → IsWellTyped program → IsWithinBounds program → IsSmall (image_of_program program) → IsCompiled program image → HasMeaningOf program image
means program image well bounds small compiled = subst (HasMeaningOf program) (sym compiled.is) (λ input limits bytes. (
  means_the_same program well bounds small compiled.marks (may_go program image compiled) input limits bytes,
  leaves_the_same program well bounds small compiled.marks (may_go program image compiled) input limits bytes,
))

pub whole_answer : {E : Type 0} (r : Rlang) (marks : (function point : ℕ) → Bool) → MarksRemovable r marks → (result : Result Parts E) → IfOk result (λ image. image ≡ marked_image (mask_of marks r) r) → IfOk result (λ image. IsSmall (image_of r)) → IfOk result (λ image. Sound image)
    → IfOk result (IsWithoutNeedlessChecks r)
whole_answer r marks removable (Ok image) is small sound = record { marks = marks; removable = removable; is = is; small = small; sound = sound }
whole_answer r marks removable (Err e) is small sound = is
