use Rattle.std.proofs.Common.{sym, subst}
use Rattle.rc_store.specs.Kept.{KeptStore, Regions}
use Rattle.rc_store.specs.Values.{value_of}
use Rattle.rc_count.specs.Counted.{IsCounted}
use Rattle.rc_count.proofs.Counting.{counted_unpinned}
use Rattle.rc_count.proofs.count.CountHeapHeap.unpin.Goals as goal

pub invariant_of-self : goal.invariant_of-self
invariant_of-self g c =
    let h = c.self.inside in
    let s : KeptStore = record { regions = h.space.regions; pins = h.pins.pins; spare = h.pins.spare; region_limit = h.region_limit; block_limit = h.block_limit } in
    let with : Regions → KeptStore = λ rs. record s { regions = rs; pins = c.unpin.new.self.pins; spare = c.unpin.new.self.spare } in
    subst (λ rs. IsCounted c.unpin-2.new.self (with rs) h.cells) (sym c.unpin-2.ensures.regions)
    (counted_unpinned h.space s h.cells c.self.invariant (value_of c.args.value) c.unpin.new.self.pins c.unpin.new.self.spare c.unpin-2.new.self c.unpin.ensures.pins c.unpin.ensures.spare c.unpin-2.ensures.counts)
