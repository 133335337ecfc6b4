-- The image of region code in which exactly the checks are left out that may go.
use Rattle.std.specs.Prelude.{◌≡◌, ℕ, Bool}
use Rattle.rc_rlang.specs.RegionCode.{Rlang}
use Rattle.rc_elim.specs.Masks.{MarksRemovable}
use Rattle.rc_code.specs.declared.image.Parts.{Parts}
use Rattle.rc_code.specs.Soundness.{Sound}
use Rattle.rc_numbering.specs.Numbered.{image_of}
use Rattle.rc_numbering.specs.Small.{IsSmall}
use Rattle.rc_marks.specs.InOrder.{mask_of}
use Rattle.rc_marks.specs.Marked.{marked_image}

-- it keeps the rules of code, and its counts and lines are below 2 to the power 32
pub record IsWithoutNeedlessChecks (r : Rlang) (image : Parts) : Type 0 where
  pub marks : (function point : ℕ) → Bool
  pub removable : MarksRemovable r marks
  pub is : image ≡ marked_image (mask_of marks r) r
  pub small : IsSmall (image_of r)
  pub sound : Sound image
