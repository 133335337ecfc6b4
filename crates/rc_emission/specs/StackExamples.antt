-- Small programs, and what their stack code does: the definitions compute. They are the programs that stand beside the translation to
-- region code, with the same ends. `Runs` says the end of a run on an empty input and what was written before it, within so many turns.
-- What is asked for in `Examples` holds by computation alone.
use Rattle.std.specs.Prelude.{◌≡◌, ℕ, List, []}
use Rattle.rc_base.specs.Acts.{Act}
use Rattle.rc_base.specs.declared.ends.End.{End}
use Rattle.rc_core.specs.Programs.{Program}
use Rattle.rc_core.specs.Runs.{Ends}
use Rattle.rc_core.specs.Meaning.{meaning_of_run, first_world}
use Rattle.rc_core.specs.Source.{source}
use Rattle.rc_rlang.specs.RegionRuns.{deletes}
use Rattle.rc_translation.specs.Translation.{region_of_program}
use Rattle.rc_translation.specs.RegionExamples.{AllRun, limits}
use Rattle.rc_emission.specs.StackCode.{stack_main}
use Rattle.rc_emission.specs.KeptOperands.{stack_code}

-- it has this end, and wrote these bytes, on an empty input and within these turns
abbrev pub Runs : Program → (turns : ℕ) → List Act → End → Type 0
Runs program turns acts end =
    let region_code = region_of_program program in
    meaning_of_run [] (stack_main source (deletes region_code) (stack_code region_code) region_code.main (first_world program [] (limits turns))) ≡ record { acts = acts; taken = 0; end = Ends end }

abbrev pub Examples : Type 0
Examples = AllRun Runs
