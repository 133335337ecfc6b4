-- What the region code of a program keeps. Where the program is typed and within its bounds, it is region code whose parts fit together.
-- Of every program each function's region code needs as many region variables as are counted on the function.
use Rattle.std.specs.Prelude.{◌≡◌}
use Rattle.rc_core.specs.Programs.{Function, Program}
use Rattle.rc_rlang.specs.IsRlang.{IsRlang}
use Rattle.rc_rlang.specs.RegionVariables.{routine_variables}
use Rattle.rc_rlang.specs.Variables.{region_variables}
use Rattle.rc_translation.specs.Translation.{routine_of, region_of_program}

abbrev pub FitsTogether : Program → Type 0
FitsTogether program = IsRlang (region_of_program program)

abbrev pub HasItsVariables : Program → Type 0
HasItsVariables program = (f : Function) → routine_variables (routine_of program f) ≡ region_variables f
