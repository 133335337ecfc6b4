use Rattle.std.proofs.Common.{◌≡◌, ◌≤◌, ◌+◌, take, slice_set, None}
use Rattle.std.specs.List.{sum_by}
use Rattle.rc_store.specs.Kept.{view_refs}
use Rattle.rc_store.specs.Stores.{cells_in}
use Rattle.rc_scan.proofs.scan.any_other_names.Given as goal

abbrev pub invariant-loop-i : goal.invariant-loop-i
invariant-loop-i g l = record { none : sum_by (view_refs l.region) (take l.i (slice_set l.regions l.region None)) ≡ 0; cost : l.steps ≤ l.fn.steps + sum_by cells_in (take l.i l.regions); never_falls : l.fn.steps ≤ l.steps }
