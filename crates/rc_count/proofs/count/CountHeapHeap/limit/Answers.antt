use Rattle.rc_store.specs.Kept.{KeptStore}
use Rattle.rc_count.proofs.Counting.{counted_limited}
use Rattle.rc_count.proofs.count.CountHeapHeap.limit.Goals as goal

pub invariant_of-self : goal.invariant_of-self
invariant_of-self g c =
    let h = c.self.inside in
    let s : KeptStore = record { regions = h.space.regions; pins = h.pins.pins; spare = h.pins.spare; region_limit = h.region_limit; block_limit = h.block_limit } in
    counted_limited h.space s h.cells c.self.invariant c.args.limits.now
