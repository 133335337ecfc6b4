use Rattle.rc_store.specs.Kept.{KeptStore}
use Rattle.rc_whole.proofs.Whole.{stays_whole}
use Rattle.rc_scan.proofs.Keeping.{with_pins}
use Rattle.rc_scan.proofs.scan.ScanHeapHeap.reserve_pins.Goals as goal

pub invariant_of-self : goal.invariant_of-self
invariant_of-self g c =
    let h = c.self.inside in
    let s : KeptStore = record { regions = h.regions; pins = h.pins.pins; spare = h.pins.spare; region_limit = h.region_limit; block_limit = h.block_limit } in
    with_pins s _ _ _ c.reserve.ensures.pins (stays_whole.spared s c.reserve.new.self.spare c.self.invariant)
