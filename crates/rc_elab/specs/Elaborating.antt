-- What elaboration answers where it refuses nothing: the program's region code. So it means what the program means: on every input of
-- bytes and within all limits its run has the same acts, takes as many bytes and has the same end; and where it exits it leaves the same.
use Rattle.std.specs.Prelude.{◌≡◌, ℕ, List, Result, Ok, Err}
use Rattle.std.specs.List.{AllByRecursion as Every}
use Rattle.rc_base.specs.declared.ends.Limits.{Limits}
use Rattle.rc_core.specs.Meaning.{first_world, meaning_of_run, meaning, left_by_run, left}
use Rattle.rc_core.specs.Numbers.{IsByte}
use Rattle.rc_core.specs.Programs.{Program}
use Rattle.rc_core.specs.Source.{source}
use Rattle.rc_rlang.specs.declared.code.RegionParts.{RegionParts}
use Rattle.rc_rlang.specs.RegionCode.{Rlang}
use Rattle.rc_rlang.specs.RegionRuns.{run_main}
use Rattle.rc_rlang.specs.Shapes.{rlang_of}
use Rattle.rc_translation.specs.Translation.{region_of_program}
use Rattle.rc_elab.specs.declared.fault.ElabFault.{ElabFault}

abbrev pub Translates : Program → Result RegionParts ElabFault → Type 0
Translates program (Ok parts) = rlang_of parts ≡ region_of_program program
Translates program (Err fault) = Unit {0}

abbrev pub HasMeaningOf : Program → Rlang → Type 0
HasMeaningOf program r = (input : List ℕ) (limits : Limits) → Every IsByte input →
    (meaning_of_run input (run_main source r (first_world program input limits)) ≡ meaning program input limits)
    × (left_by_run (run_main source r (first_world program input limits)) ≡ left program input limits)

abbrev pub Means : Program → Result RegionParts ElabFault → Type 0
Means program (Ok parts) = HasMeaningOf program (rlang_of parts)
Means program (Err fault) = Unit {0}
