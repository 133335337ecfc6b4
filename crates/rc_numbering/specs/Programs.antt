-- From a program to its image: the image means what the program means, on every input of bytes and within all limits: the bytes written
-- and read in their order, how many bytes are taken, and the end; and where it exits it leaves what the program leaves. The program's
-- meaning is over the world of the language's definition, the image's over a store that keeps live regions and counts.
use Rattle.std.specs.Prelude.{◌≡◌, ℕ, List}
use Rattle.std.specs.List.{AllByRecursion as Every}
use Rattle.rc_base.specs.declared.ends.Limits.{Limits}
use Rattle.rc_core.specs.Numbers.{IsByte}
use Rattle.rc_core.specs.Programs.{Program}
use Rattle.rc_core.specs.Meaning.{meaning, left}
use Rattle.rc_translation.specs.Translation.{region_of_program}
use Rattle.rc_code.specs.declared.image.Parts.{Parts}
use Rattle.rc_code.specs.ImageMeaning.{image_meaning, image_left}
use Rattle.rc_numbering.specs.Numbered.{image_of}

abbrev pub image_of_program : Program → Parts
image_of_program program = image_of (region_of_program program)

abbrev pub ImageMeansTheSame : Program → Type 0
ImageMeansTheSame program = (input : List ℕ) (limits : Limits) → Every IsByte input → image_meaning (image_of_program program) input limits ≡ meaning program input limits

abbrev pub ImageLeavesTheSame : Program → Type 0
ImageLeavesTheSame program = (input : List ℕ) (limits : Limits) → Every IsByte input → image_left (image_of_program program) input limits ≡ left program input limits
