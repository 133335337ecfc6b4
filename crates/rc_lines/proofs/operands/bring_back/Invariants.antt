use Rattle.std.proofs.Common.{◌≡◌, ◌++◌, ◌+◌, take}
use Rattle.rc_emission.specs.OperationCode.{at, reloads}
use Rattle.rc_lines.specs.Bare.{bare_all, lines_of}
use Rattle.rc_lines.specs.Operands.{types_on}
use Rattle.rc_lines.specs.Over.{slot_in}
use Rattle.rc_lines.proofs.operands.bring_back.Given as goal

abbrev pub invariant-loop-operand : goal.invariant-loop-operand
invariant-loop-operand l =
    (l.height ≡ l.base + l.operand-index) × (lines_of l.out.items ≡ lines_of l.fn.out.items ++ at l.line (bare_all (reloads (slot_in l.body) l.base (types_on (take l.operand-index l.operands)))))
