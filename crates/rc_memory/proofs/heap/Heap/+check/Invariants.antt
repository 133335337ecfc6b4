use Rattle.std.proofs.Common.{length}
use Rattle.rc_memory.proofs.heap.Heap.+check.Given as goal

abbrev pub decreases-check : goal.decreases-check
decreases-check l = length l.values.now
