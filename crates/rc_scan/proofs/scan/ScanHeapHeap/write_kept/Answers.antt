use Rattle.std.proofs.Common.{IsTrue, sym, subst}
use Rattle.rc_core.specs.Heap.{fits}
use Rattle.rc_store.specs.Kept.{KeptStore}
use Rattle.rc_store.specs.Stores.{MayStand, kind_at, parent_in}
use Rattle.rc_store.specs.Values.{note_of, value_of}
use Rattle.rc_whole.proofs.Whole.{stays_whole}
use Rattle.rc_scan.proofs.Keeping.{with_regions}
use Rattle.rc_scan.proofs.scan.ScanHeapHeap.write_kept.Goals as goal

pub invariant_of-self : goal.invariant_of-self
invariant_of-self g c =
    let h = c.self.inside in
    let s : KeptStore = record { regions = h.regions; pins = h.pins.pins; spare = h.pins.spare; region_limit = h.region_limit; block_limit = h.block_limit } in
    let p = c.args.place in
    let v = value_of c.args.value in
    let may : MayStand s p v = subst (λ x. MayStand x p v) (sym c.self.view_is) c.requires.may in
    let fit : IsTrue (fits (parent_in s.regions) (note_of (kind_at s p)) p.pointer.region v) = subst (λ (x : KeptStore). IsTrue (fits (parent_in x.regions) (note_of (kind_at x p)) p.pointer.region v)) (sym c.self.view_is) c.requires.fits in
    with_regions s _ _ c.write.ensures (stays_whole.written s p v c.self.invariant may fit)
