use Rattle.std.proofs.Common.{sym, subst}
use Rattle.rc_store.specs.Kept.{KeptStore}
use Rattle.rc_store.specs.Stores.{IsFresh}
use Rattle.rc_store.specs.Values.{value_of}
use Rattle.rc_whole.proofs.Whole.{stays_whole}
use Rattle.rc_scan.proofs.Keeping.{with_pins}
use Rattle.rc_scan.proofs.scan.ScanHeapHeap.pin.Goals as goal

pub invariant_of-self : goal.invariant_of-self
invariant_of-self g c =
    let h = c.self.inside in
    let s : KeptStore = record { regions = h.regions; pins = h.pins.pins; spare = h.pins.spare; region_limit = h.region_limit; block_limit = h.block_limit } in
    let v = value_of c.args.value in
    let fresh : IsFresh s v = subst (λ x. IsFresh x v) (sym c.self.view_is) c.requires.fresh in
    with_pins s _ _ _ c.pin.ensures.pins (stays_whole.pinned s c.pin.new.self.spare v c.self.invariant fresh)
