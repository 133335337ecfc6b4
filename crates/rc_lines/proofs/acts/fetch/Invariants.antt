use Rattle.std.proofs.Common.{◌≡◌, ◌++◌, drop, map}
use Rattle.rc_emission.specs.OperationCode.{at}
use Rattle.rc_emission.specs.StatementCode.{gets}
use Rattle.rc_lines.specs.Bare.{bare_all, lines_of}
use Rattle.rc_lines.specs.Operands.{type_of}
use Rattle.rc_lines.specs.Over.{deleting_in, types_in, slot_in}
use Rattle.rc_lines.proofs.acts.fetch.Given as goal

abbrev pub invariant-loop-operand : goal.invariant-loop-operand
invariant-loop-operand l =
    lines_of l.out.items ++ at l.line (bare_all (gets (slot_in l.body) (deleting_in l.body) (types_in l.body) l.height (map type_of (drop l.operand-index l.operands))))
    ≡ lines_of l.fn.out.items ++ at l.line (bare_all (gets (slot_in l.body) (deleting_in l.body) (types_in l.body) l.from (map type_of l.operands)))
