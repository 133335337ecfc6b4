-- The stack code of functions in lists: what it stands for, and when it is a function's and a whole program's.
use Rattle.std.specs.Prelude.{◌≡◌, List, length, map}
use Rattle.rc_core.specs.Shapes.{ty_of}
use Rattle.rc_rlang.specs.RegionCode.{Routine, Rlang}
use Rattle.rc_rlang.specs.RegionRuns.{deletes}
use Rattle.rc_emission.specs.StackCode.{StackFunction}
use Rattle.rc_emission.specs.StatementCode.{stack_function}
use Rattle.rc_emission.specs.KeptOperands.{slots_of, stack_code}
use Rattle.rc_lines.specs.Bare.{bare_code, lines_of}
use Rattle.rc_lines.specs.declared.function_code.FunctionCode.{FunctionCode}

-- a function without what no image says of its instructions
abbrev pub bare_function : StackFunction → StackFunction
bare_function f = record { locals = f.locals; code = bare_code (length f.code) f.code }

abbrev pub function_of : FunctionCode → StackFunction
function_of c = record { locals = map ty_of c.locals.items; code = lines_of c.lines.items }

-- it has the locals and the instructions that the function's code has
abbrev pub IsFunctionCode : Rlang → Routine → FunctionCode → Type 0
IsFunctionCode r f c = function_of c ≡ bare_function (stack_function slots_of (deletes r) f)

-- it is the code of each function, in their order
abbrev pub IsProgramCode : Rlang → List FunctionCode → Type 0
IsProgramCode r code = map function_of code ≡ map bare_function (stack_code r)
