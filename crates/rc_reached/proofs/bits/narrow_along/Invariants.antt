use Rattle.rc_reached.proofs.Narrowing.{Along}
use Rattle.rc_reached.proofs.bits.narrow_along.Given as goal

abbrev pub invariant-loop-left : goal.invariant-loop-left
invariant-loop-left l = Along l.fn.words l.words l.index l.fn.reach l.reach l.left

abbrev pub decreases-loop-left : goal.decreases-loop-left
decreases-loop-left l = l.left
