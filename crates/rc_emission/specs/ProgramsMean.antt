-- The stack code of a program, by way of its region code, means what the program means, and leaves what it leaves, in the world of the
-- language's definition: the bytes written and read in their order, how many bytes are taken, and the end; and where the program exits,
-- what it leaves. It holds on every input of bytes and within all limits.
use Rattle.std.specs.Prelude.{◌≡◌, ℕ, List}
use Rattle.std.specs.List.{AllByRecursion as Every}
use Rattle.rc_base.specs.declared.ends.Limits.{Limits}
use Rattle.rc_core.specs.Numbers.{IsByte}
use Rattle.rc_core.specs.Heap.{Value}
use Rattle.rc_core.specs.Programs.{Program}
use Rattle.rc_core.specs.Runs.{Run}
use Rattle.rc_core.specs.Source.{World, source}
use Rattle.rc_core.specs.Meaning.{first_world, meaning_of_run, meaning, left_by_run, left}
use Rattle.rc_rlang.specs.RegionRuns.{deletes}
use Rattle.rc_translation.specs.Translation.{region_of_program}
use Rattle.rc_emission.specs.StackCode.{stack_main}
use Rattle.rc_emission.specs.KeptOperands.{stack_code}

abbrev pub stack_run : Program → (input : List ℕ) → Limits → Run World Value
stack_run program input limits =
    let region_code = region_of_program program in
    stack_main source (deletes region_code) (stack_code region_code) region_code.main (first_world program input limits)

abbrev pub ProgramMeansTheSame : Program → Type 0
ProgramMeansTheSame program = (input : List ℕ) (limits : Limits) → Every IsByte input → meaning_of_run input (stack_run program input limits) ≡ meaning program input limits

abbrev pub ProgramLeavesTheSame : Program → Type 0
ProgramLeavesTheSame program = (input : List ℕ) (limits : Limits) → Every IsByte input → left_by_run (stack_run program input limits) ≡ left program input limits
