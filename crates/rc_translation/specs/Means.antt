-- The region code of a program means what the program means, and leaves what it leaves: the bytes written and read in their order, how
-- many bytes are taken, and the end; and where the program exits, what it leaves. Region code is run over the same world as the program,
-- on every input of bytes and within all limits. In a struct copy that traps in the middle, region code has written the cells before that
-- and the program none; nobody can see it, since the run has ended. Two facts need no typing: region code has as many points as are
-- counted on the program, and before each statement's code the same locals are live. A last one is on typed programs: temporaries
-- stand as on a stack.
use Rattle.std.specs.Prelude.{◌≡◌, ℕ, List, Some, slice_get}
use Rattle.std.specs.List.{AllByRecursion as Every}
use Rattle.rc_base.specs.declared.ends.Limits.{Limits}
use Rattle.rc_core.specs.Numbers.{IsByte}
use Rattle.rc_core.specs.Programs.{Stmt, Function, Program}
use Rattle.rc_core.specs.Live.{Ways, before}
use Rattle.rc_core.specs.Source.{source}
use Rattle.rc_core.specs.Meaning.{first_world, meaning_of_run, meaning, left_by_run, left}
use Rattle.rc_rlang.specs.Points.{program_points}
use Rattle.rc_rlang.specs.RegionFits.{CodeFits}
use Rattle.rc_rlang.specs.RegionLive.{before_code}
use Rattle.rc_rlang.specs.RegionPoints.{rlang_points}
use Rattle.rc_rlang.specs.RegionRuns.{run_main}
use Rattle.rc_translation.specs.Translation.{statement_code, region_of_program}

abbrev pub MeansTheSame : Program → Type 0
MeansTheSame program = (input : List ℕ) (limits : Limits) → Every IsByte input → meaning_of_run input (run_main source (region_of_program program) (first_world program input limits)) ≡ meaning program input limits

abbrev pub LeavesTheSame : Program → Type 0
LeavesTheSame program = (input : List ℕ) (limits : Limits) → Every IsByte input → left_by_run (run_main source (region_of_program program) (first_world program input limits)) ≡ left program input limits

-- as many points
abbrev pub HasItsPoints : Program → Type 0
HasItsPoints program = rlang_points (region_of_program program) ≡ program_points program

-- the same locals are live before each statement
abbrev pub HasItsLocalsLive : Program → Type 0
HasItsLocalsLive program = (f : Function) (s : Stmt) (ways : Ways) (x : ℕ) → before_code (statement_code program f s) ways x ≡ before s ways x

-- each function's code writes a temporary where it is read, and it is read once
abbrev pub FitsTemporaries : Program → Type 0
FitsTemporaries program = (k : ℕ) (f : Function) → slice_get program.functions k ≡ Some f → CodeFits (statement_code program f f.body)
