-- What holds of the image that a program is compiled to. It does what the program does: on every input of bytes and within all limits it has
-- the same acts in the same order, takes as many bytes and has the same end, and where it exits it leaves the same. It keeps the rules of
-- code, so that no operand is missing or of a wrong kind. Its stores to annotated cells are the sites of the program's region code, in the
-- same order; each of them checks its annotation but those whose checks may go. So for each line, annotation and bit it has as many annotated
-- stores with these as the region code has sites with that line and annotation whose check may go just where the bit says so. No run on bytes
-- comes to a store whose check was left out and would have failed. Its counts and lines are below 2 to the power 32.
use Rattle.std.specs.Prelude.{◌≡◌, ℕ, List, map}
use Rattle.std.specs.List.{AllByRecursion as Every}
use Rattle.rc_base.specs.declared.ends.Limits.{Limits}
use Rattle.rc_core.specs.Numbers.{IsByte}
use Rattle.rc_core.specs.Programs.{Program}
use Rattle.rc_core.specs.Meaning.{meaning, left}
use Rattle.rc_translation.specs.Translation.{region_of_program}
use Rattle.rc_code.specs.declared.image.Parts.{Parts}
use Rattle.rc_code.specs.ImageMeaning.{image_meaning, image_left}
use Rattle.rc_code.specs.Soundness.{Sound}
use Rattle.rc_code.specs.Faithful.{Faithful}
use Rattle.rc_numbering.specs.Small.{IsSmall}
use Rattle.rc_numbering.specs.Programs.{image_of_program}
use Rattle.rc_marks.specs.Marked.{image_stores}
use Rattle.rc_marks.specs.Counted.{all_sites, stored, HasAsMany}
use Rattle.rc_unchecked.specs.Compiled.{IsCompiled}

abbrev pub HasMeaningOf : Program → Parts → Type 0
HasMeaningOf program image = (input : List ℕ) (limits : Limits) → Every IsByte input →
    (image_meaning image input limits ≡ meaning program input limits) × (image_left image input limits ≡ left program input limits)

pub record HasImage (program : Program) (image : Parts) : Type 0 where
  pub compiled : IsCompiled program image
  pub sound : Sound image
  pub faithful : Faithful image
  -- site by site, each with its line, its annotation and its mark
  pub stores : image_stores image ≡ map (stored compiled.marks) (all_sites (region_of_program program))
  pub counted : HasAsMany (region_of_program program) image
  pub means : HasMeaningOf program image
  pub small : IsSmall (image_of_program program)
