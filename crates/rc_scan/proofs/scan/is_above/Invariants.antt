use Rattle.std.proofs.Common.{◌≡◌, ◌-◌}
use Rattle.rc_core.specs.Heap.{is_above_within}
use Rattle.rc_store.specs.Stores.{parent_in}
use Rattle.rc_scan.proofs.scan.is_above.Given as goal

abbrev pub invariant-loop : goal.invariant-loop
invariant-loop g l = is_above_within (parent_in l.regions) (l.b - l.counter) l.a l.at ≡ is_above_within (parent_in l.regions) l.b l.a l.b
