use Rattle.std.proofs.Common.{◌≡◌, ◌++◌, ◌≤◌, length, take}
use Rattle.rc_emission.specs.OperationCode.{at, spills}
use Rattle.rc_lines.specs.Bare.{bare_all, lines_of}
use Rattle.rc_lines.specs.Operands.{types_on}
use Rattle.rc_lines.specs.Over.{slot_in}
use Rattle.rc_lines.proofs.operands.keep.Given as goal

abbrev pub invariant-loop-left : goal.invariant-loop-left
invariant-loop-left l =
    (l.left ≤ length l.operands) × (lines_of l.out.items ++ at l.line (bare_all (spills (slot_in l.body) l.base (types_on (take l.left l.operands)))) ≡ lines_of l.fn.out.items ++ at l.line (bare_all (spills (slot_in l.body) l.base (types_on l.operands))))

abbrev pub decreases-loop-left : goal.decreases-loop-left
decreases-loop-left l = l.left
