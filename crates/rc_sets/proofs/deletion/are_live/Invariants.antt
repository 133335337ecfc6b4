use Rattle.std.proofs.Common.{◌≡◌, true, take}
use Rattle.std.specs.List.{list_all}
use Rattle.rc_store.specs.Stores.{live_in}
use Rattle.rc_sets.proofs.deletion.are_live.Given as goal

abbrev pub invariant-loop-region : goal.invariant-loop-region
invariant-loop-region g l = list_all (live_in (g.H.Heap.store l.fn.heap).regions) (take l.region-index l.regions) ≡ true
