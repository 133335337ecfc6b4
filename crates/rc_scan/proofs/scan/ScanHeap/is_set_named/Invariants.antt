use Rattle.std.proofs.Common.{◌≡◌, ◌≤◌, ◌+◌, take}
use Rattle.std.specs.List.{sum_by}
use Rattle.rc_store.specs.Sets.{refs_to}
use Rattle.rc_store.specs.Stores.{cells_in}
use Rattle.rc_scan.proofs.scan.ScanHeap.is_set_named.Given as goal

abbrev pub invariant-loop-member : goal.invariant-loop-member
invariant-loop-member g l = record {
  none : sum_by (refs_to l.self l.set) (take l.member-index l.set) ≡ 0;
  cost : l.steps ≤ l.fn.steps + sum_by (λ r. sum_by cells_in l.self.regions) (take l.member-index l.set);
  never_falls : l.fn.steps ≤ l.steps;
}
