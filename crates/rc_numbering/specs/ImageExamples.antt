-- Small programs, and what their images do: the definitions compute, from the program by way of region code and stack code to the image and
-- its run over a store. They are the programs that stand beside the translation to region code, with the same ends. `Runs` says the end of
-- a run on an empty input and what was written before it, within so many turns.
use Rattle.std.specs.Prelude.{◌≡◌, ℕ, List, []}
use Rattle.rc_base.specs.Acts.{Act}
use Rattle.rc_base.specs.declared.ends.End.{End}
use Rattle.rc_core.specs.Programs.{Program}
use Rattle.rc_core.specs.Runs.{Ends}
use Rattle.rc_translation.specs.RegionExamples.{AllRun, limits}
use Rattle.rc_code.specs.ImageMeaning.{image_meaning}
use Rattle.rc_numbering.specs.Programs.{image_of_program}

-- it has this end, and wrote these bytes, on an empty input and within these turns
abbrev pub Runs : Program → (turns : ℕ) → List Act → End → Type 0
Runs program turns acts end = image_meaning (image_of_program program) [] (limits turns) ≡ record { acts = acts; taken = 0; end = Ends end }

abbrev pub Examples : Type 0
Examples = AllRun Runs
