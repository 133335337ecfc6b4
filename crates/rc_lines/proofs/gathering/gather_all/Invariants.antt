use Rattle.std.proofs.Common.{◌≡◌, ◌++◌, ◌≤◌, length, take}
use Rattle.rc_emission.specs.KeptOperands.{kept_operands}
use Rattle.rc_lines.specs.Gathered.{all_kept}
use Rattle.rc_lines.specs.Operands.{types_on}
use Rattle.rc_lines.proofs.gathering.gather_all.Given as goal

abbrev pub invariant-loop-left : goal.invariant-loop-left
invariant-loop-left l =
    (l.left ≤ length l.operands) × (all_kept l.out.items ++ kept_operands l.base (types_on (take l.left l.operands)) ≡ all_kept l.fn.out.items ++ kept_operands l.base (types_on l.operands))

abbrev pub decreases-loop-left : goal.decreases-loop-left
decreases-loop-left l = l.left
