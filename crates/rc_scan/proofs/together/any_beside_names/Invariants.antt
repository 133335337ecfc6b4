use Rattle.std.proofs.Common.{◌≡◌, ◌≤◌, ◌+◌, drop, take}
use Rattle.std.specs.List.{sum_by}
use Rattle.rc_store.specs.Kept.{view_refs}
use Rattle.rc_store.specs.Sets.{without}
use Rattle.rc_store.specs.Stores.{cells_in}
use Rattle.rc_store.proofs.Along.{beside_from}
use Rattle.rc_scan.proofs.together.any_beside_names.Given as goal

-- what is left decides
abbrev pub invariant-loop-i : goal.invariant-loop-i
invariant-loop-i g l = record {
  left : beside_from l.set l.region l.i (drop l.i l.regions) ≡ sum_by (view_refs l.region) (without l.set l.regions);
  cost : l.steps ≤ l.fn.steps + sum_by cells_in (take l.i l.regions);
  never_falls : l.fn.steps ≤ l.steps;
}
