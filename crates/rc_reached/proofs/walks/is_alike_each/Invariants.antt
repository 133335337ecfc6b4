use Rattle.std.proofs.Common.{◌≡◌}
use Rattle.rc_reached.specs.Walks.{at_each, is_there}
use Rattle.rc_reached.proofs.walks.is_alike_each.Given as goal

abbrev pub invariant-loop-left : goal.invariant-loop-left
invariant-loop-left l = at_each (is_there l.cell l.place) l.left l.index.stride 0 ≡ at_each (is_there l.cell l.from) l.index.length l.index.stride 0

abbrev pub decreases-loop-left : goal.decreases-loop-left
decreases-loop-left l = l.left
