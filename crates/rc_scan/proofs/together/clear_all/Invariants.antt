use Rattle.std.proofs.Common.{◌≡◌, drop}
use Rattle.rc_store.specs.Kept.{KeptStore}
use Rattle.rc_store.specs.Sets.{deleted_all}
use Rattle.rc_scan.proofs.together.clear_all.Given as goal

-- the rest is still to go
abbrev pub invariant-loop-region : goal.invariant-loop-region
invariant-loop-region g l = record {
  rest : (s : KeptStore) → s.regions ≡ l.fn.regions → deleted_all l.set s ≡ deleted_all (drop l.region-index l.set) (record s { regions = l.regions });
}
