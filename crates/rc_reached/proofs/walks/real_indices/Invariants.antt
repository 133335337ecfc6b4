use Rattle.std.proofs.Common.{take}
use Rattle.rc_reached.specs.Walks.{IsWalkedAs}
use Rattle.rc_reached.proofs.walks.real_indices.Given as goal

abbrev pub invariant-loop-index : goal.invariant-loop-index
invariant-loop-index l = IsWalkedAs l.real.items (take l.index-index l.indices)
