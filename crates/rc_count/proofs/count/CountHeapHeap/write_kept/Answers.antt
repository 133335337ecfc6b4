use Rattle.std.proofs.Common.{◌≢◌, IsTrue, get_or, sym, ap, subst}
use Rattle.rc_core.specs.declared.ty.Note.TheVariants.{Plain}
use Rattle.rc_core.specs.Heap.{fits}
use Rattle.rc_store.specs.Kept.{KeptStore, Regions}
use Rattle.rc_store.specs.Stores.{MayStand, kind_at, parent_in}
use Rattle.rc_store.specs.Values.{note_of, value_of}
use Rattle.rc_cells.specs.Follow.{IsThere}
use Rattle.rc_count.specs.Counted.{IsCounted}
use Rattle.rc_count.proofs.Counting.{counted_kept}
use Rattle.rc_count.proofs.count.CountHeapHeap.write_kept.Goals as goal

pub invariant_of-self : goal.invariant_of-self
invariant_of-self g c =
    let h = c.self.inside in
    let s : KeptStore = record { regions = h.space.regions; pins = h.pins.pins; spare = h.pins.spare; region_limit = h.region_limit; block_limit = h.block_limit } in
    let with : Regions → KeptStore = λ rs. record s { regions = rs } in
    let p = c.args.place in
    let v = value_of c.args.value in
    let may : MayStand s p v = subst (λ x. MayStand x p v) (sym c.self.view_is) c.requires.may in
    let there : IsThere s p = record { place = may.place; kind = c.write.ensures.whole.kind; value = c.write.ensures.whole.value } in
    let noted : note_of (kind_at s p) ≢ Plain = subst (λ x. note_of (kind_at x p) ≢ Plain) (sym c.self.view_is) c.requires.noted in
    let fit : IsTrue (fits (parent_in s.regions) (note_of (kind_at s p)) p.pointer.region v) = subst (λ (x : KeptStore). IsTrue (fits (parent_in x.regions) (note_of (kind_at x p)) p.pointer.region v)) (sym c.self.view_is) c.requires.fits in
    subst (λ rs. IsCounted c.write.new.self (with rs) h.cells) (sym c.write.ensures.written)
    (counted_kept h.space s h.cells c.self.invariant p there v c.write.new.self may noted fit (λ r. ap (λ ns. get_or ns r 0) c.write.ensures.counts))
