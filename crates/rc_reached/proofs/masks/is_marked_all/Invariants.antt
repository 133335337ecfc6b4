use Rattle.std.proofs.Common.{length}
use Rattle.rc_reached.proofs.Narrowing.{Walk}
use Rattle.rc_reached.proofs.masks.is_marked_all.Given as goal

abbrev pub invariant-loop-rest : goal.invariant-loop-rest
invariant-loop-rest l = Walk l.fn.words l.words l.indices l.rest l.reach

abbrev pub decreases-loop-rest : goal.decreases-loop-rest
decreases-loop-rest l = length l.rest
