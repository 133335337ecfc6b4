use Rattle.std.proofs.Common.{◌≡◌, length}
use Rattle.rc_reached.specs.Walks.{at_each, at_all}
use Rattle.rc_reached.specs.Numbered.{is_numbered}
use Rattle.rc_reached.proofs.numbered.+are_numbered_all.Given as goal

abbrev pub decreases-are_numbered_all : goal.decreases-are_numbered_all
decreases-are_numbered_all l = length l.indices.now

abbrev pub invariant-loop-left : goal.invariant-loop-left
invariant-loop-left l =
    at_each (at_all (is_numbered l.number l.place) l.after) l.left l.index.stride 0 ≡ at_each (at_all (is_numbered l.number l.from) l.after) l.index.length l.index.stride 0

abbrev pub decreases-loop-left : goal.decreases-loop-left
decreases-loop-left l = l.left
