use Rattle.std.proofs.Common.{map}
use Rattle.rc_core.specs.Shapes.{function_of}
use Rattle.rc_elab.proofs.Functions.{NarrowBefore}
use Rattle.rc_elab.proofs.counting.first_wide.Given as goal

abbrev pub invariant-loop-f : goal.invariant-loop-f
invariant-loop-f l = NarrowBefore (map function_of l.functions) l.f-index
