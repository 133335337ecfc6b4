use Rattle.std.proofs.Common.{◌≡◌, ◌-◌}
use Rattle.rc_core.specs.Heap.{is_above_within}
use Rattle.rc_memory.specs.Kept.{parent}
use Rattle.rc_memory.proofs.heap.Heap.is_above.Given as goal

abbrev pub invariant-loop : goal.invariant-loop
invariant-loop l = is_above_within (parent l.self) (l.b - l.counter) l.a l.at ≡ is_above_within (parent l.self) l.b l.a l.b
