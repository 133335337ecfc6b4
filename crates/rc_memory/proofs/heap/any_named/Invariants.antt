use Rattle.std.proofs.Common.{◌≡◌, drop}
use Rattle.rc_memory.specs.Kept.{is_named}
use Rattle.rc_memory.proofs.heap.any_named.Given as goal

abbrev pub invariant-loop-number : goal.invariant-loop-number
invariant-loop-number l = is_named l.region l.number (drop l.number l.regions) ≡ is_named l.region 0 l.regions
