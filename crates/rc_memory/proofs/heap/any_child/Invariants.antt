use Rattle.std.proofs.Common.{◌≡◌, false, take}
use Rattle.rc_memory.specs.Kept.{has_child}
use Rattle.rc_memory.proofs.heap.any_child.Given as goal

abbrev pub invariant-loop-r : goal.invariant-loop-r
invariant-loop-r l = has_child l.region (take l.r-index l.regions) ≡ false
