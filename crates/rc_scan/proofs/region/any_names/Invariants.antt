use Rattle.std.proofs.Common.{◌≡◌, ◌≤◌, ◌+◌, take}
use Rattle.std.specs.List.{sum_by}
use Rattle.rc_store.specs.Kept.{object_refs}
use Rattle.rc_store.specs.Stores.{size_of}
use Rattle.rc_scan.proofs.region.any_names.Given as goal

abbrev pub invariant-loop-object : goal.invariant-loop-object
invariant-loop-object g l = record { none : sum_by (object_refs l.region) (take l.object-index l.objects) ≡ 0; cost : l.steps ≤ l.fn.steps + sum_by size_of (take l.object-index l.objects); never_falls : l.fn.steps ≤ l.steps }
