-- The marks of an image without needless checks are right: at no marked store that a run on bytes comes to would the check have failed.
use Rattle.std.specs.Prelude.{ℕ, Bool}
use Rattle.rc_core.specs.Programs.{Program}
use Rattle.rc_code.specs.Faithful.{Faithful}
use Rattle.rc_unchecked.specs.Unchecked.{image_with, MayGo}

abbrev pub MarksAreRight : Program → Type 0
MarksAreRight program = (marks : (function point : ℕ) → Bool) → MayGo program marks → Faithful (image_with marks program)
