use Rattle.std.proofs.Common.{◌≡◌}
use Rattle.rc_reached.specs.Walks.{at_each}
use Rattle.rc_reached.specs.Numbered.{is_numbered}
use Rattle.rc_reached.proofs.numbered.is_numbered_each.Given as goal

abbrev pub invariant-loop-left : goal.invariant-loop-left
invariant-loop-left l = at_each (is_numbered l.number l.place) l.left l.index.stride 0 ≡ at_each (is_numbered l.number l.from) l.index.length l.index.stride 0

abbrev pub decreases-loop-left : goal.decreases-loop-left
decreases-loop-left l = l.left
