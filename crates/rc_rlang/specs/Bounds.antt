-- What a program may need: so many region variables in a function, and points.
use Rattle.std.specs.Prelude.{◌≡◌, ◌<◌, ◌≤◌, ℕ, List, Some, slice_get}
use Rattle.rc_base.specs.Limits.{most_points, most_variables}
use Rattle.rc_core.specs.Programs.{Function, Program}
use Rattle.rc_rlang.specs.Points.{program_points}
use Rattle.rc_rlang.specs.Variables.{region_variables}

abbrev pub IsNarrow : Function → Type 0
IsNarrow f = region_variables f ≤ most_variables

abbrev pub AllNarrow : List Function → Type 0
AllNarrow functions = (k : ℕ) (f : Function) → slice_get functions k ≡ Some f → IsNarrow f

-- the first function that isn't narrow begins at this line
pub record FirstWide (functions : List Function) (line : ℕ) : Type 0 where
  pub number : ℕ
  pub function : Function
  pub there : slice_get functions number ≡ Some function
  pub wide : most_variables < region_variables function
  pub on_line : line ≡ function.line
  pub narrow_before : (k : ℕ) (f : Function) → k < number → slice_get functions k ≡ Some f → IsNarrow f

pub record IsWithinBounds (program : Program) : Type 0 where
  pub narrow : AllNarrow program.functions
  pub few_points : program_points program ≤ most_points

pub record HasManyPoints (program : Program) : Type 0 where
  pub narrow : AllNarrow program.functions
  pub many : most_points < program_points program
