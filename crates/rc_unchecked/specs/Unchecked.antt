-- The image of a program in which the stores at some points have a mark, so that they make no check of the annotation. Where each of these
-- checks may go (some consistent annotation of the region code has the fact that it asks), the image means what the program means, on every
-- input of bytes and within all limits, and where it exits it leaves what the program leaves.
use Rattle.std.specs.Prelude.{◌≡◌, ℕ, Bool, List}
use Rattle.std.specs.List.{AllByRecursion as Every}
use Rattle.rc_base.specs.declared.ends.Limits.{Limits}
use Rattle.rc_core.specs.Numbers.{IsByte}
use Rattle.rc_core.specs.Programs.{Program}
use Rattle.rc_core.specs.Meaning.{meaning, left}
use Rattle.rc_translation.specs.Translation.{region_of_program}
use Rattle.rc_annotations.specs.Annotations.{AllRemovable}
use Rattle.rc_annotations.specs.Heights.{temporaries_of}
use Rattle.rc_code.specs.declared.image.Parts.{Parts}
use Rattle.rc_code.specs.ImageMeaning.{image_meaning, image_left}
use Rattle.rc_marks.specs.Marked.{marked_image}
use Rattle.rc_marks.specs.InOrder.{mask_of}

abbrev pub image_with : (marks : (function point : ℕ) → Bool) → Program → Parts
image_with marks program = let r = region_of_program program in marked_image (mask_of marks r) r

-- each of the marked checks may go
abbrev pub MayGo : Program → (marks : (function point : ℕ) → Bool) → Type 0
MayGo program marks = let r = region_of_program program in AllRemovable r (temporaries_of r) marks

abbrev pub MeansTheSameUnchecked : Program → Type 0
MeansTheSameUnchecked program = (marks : (function point : ℕ) → Bool) → MayGo program marks → (input : List ℕ) (limits : Limits) → Every IsByte input → image_meaning (image_with marks program) input limits ≡ meaning program input limits

abbrev pub LeavesTheSameUnchecked : Program → Type 0
LeavesTheSameUnchecked program = (marks : (function point : ℕ) → Bool) → MayGo program marks → (input : List ℕ) (limits : Limits) → Every IsByte input → image_left (image_with marks program) input limits ≡ left program input limits
