use Rattle.std.proofs.Common.{◌≡◌, ◌++◌, take}
use Rattle.rc_emission.specs.OperationCode.{at}
use Rattle.rc_lines.specs.Bare.{instructions_of, lines_of}
use Rattle.rc_lines.proofs.lines.add.Given as goal

abbrev pub invariant-loop-instruction : goal.invariant-loop-instruction
invariant-loop-instruction l = lines_of l.out.items ≡ lines_of l.fn.out.items ++ at l.line (instructions_of (take l.instruction-index l.instructions))
