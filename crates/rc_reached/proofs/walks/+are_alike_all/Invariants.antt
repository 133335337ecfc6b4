use Rattle.std.proofs.Common.{◌≡◌, length}
use Rattle.rc_reached.specs.Walks.{at_each, at_all, is_there}
use Rattle.rc_reached.proofs.walks.+are_alike_all.Given as goal

abbrev pub decreases-are_alike_all : goal.decreases-are_alike_all
decreases-are_alike_all l = length l.indices.now

abbrev pub invariant-loop-left : goal.invariant-loop-left
invariant-loop-left l =
    at_each (at_all (is_there l.cell l.place) l.after) l.left l.index.stride 0 ≡ at_each (at_all (is_there l.cell l.from) l.after) l.index.length l.index.stride 0

abbrev pub decreases-loop-left : goal.decreases-loop-left
decreases-loop-left l = l.left
