-- The image that a program is compiled to: that of its region code, in which exactly the stores have a mark, and so make no check, whose
-- checks may go. There is one such image.
use Rattle.std.specs.Prelude.{◌≡◌, ℕ, Bool}
use Rattle.rc_core.specs.Programs.{Program}
use Rattle.rc_translation.specs.Translation.{region_of_program}
use Rattle.rc_elim.specs.Masks.{MarksRemovable}
use Rattle.rc_code.specs.declared.image.Parts.{Parts}
use Rattle.rc_unchecked.specs.Unchecked.{image_with}

pub record IsCompiled (program : Program) (image : Parts) : Type 0 where
  pub marks : (function point : ℕ) → Bool
  pub removable : MarksRemovable (region_of_program program) marks
  pub is : image ≡ image_with marks program

abbrev pub HasOneImage : Program → Type 0
HasOneImage program = (image : Parts) × (IsCompiled program image) × ((other : Parts) → IsCompiled program other → other ≡ image)
