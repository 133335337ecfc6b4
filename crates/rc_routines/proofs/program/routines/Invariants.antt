use Rattle.std.proofs.Common.{◌≡◌, ◌++◌, drop, map}
use Rattle.rc_core.specs.Shapes.{function_of, program_of}
use Rattle.rc_rlang.specs.Shapes.{routine_in}
use Rattle.rc_translation.specs.Translation.{routine_of}
use Rattle.rc_routines.proofs.program.routines.Given as goal

abbrev pub invariant-loop-f : goal.invariant-loop-f
invariant-loop-f l =
    map (routine_in (program_of l.parts).structs) l.routines.items ++ map (routine_of (program_of l.parts)) (map function_of (drop l.f-index l.functions))
    ≡ map (routine_of (program_of l.parts)) (map function_of l.functions)
