use Rattle.std.proofs.Common.{IsTrue, get_or, sym, ap, subst}
use Rattle.rc_core.specs.Heap.{Number}
use Rattle.rc_store.specs.Kept.{KeptStore, Regions}
use Rattle.rc_store.specs.Stores.{MayStand, kind_at}
use Rattle.rc_store.specs.Values.{suits, value_of}
use Rattle.rc_cells.specs.Follow.{IsThere}
use Rattle.rc_count.specs.Counted.{IsCounted}
use Rattle.rc_count.proofs.Counting.{counted_number}
use Rattle.rc_count.proofs.count.CountHeapHeap.write_counted.Goals as goal

pub invariant_of-self : goal.invariant_of-self
invariant_of-self g c =
    let h = c.self.inside in
    let s : KeptStore = record { regions = h.space.regions; pins = h.pins.pins; spare = h.pins.spare; region_limit = h.region_limit; block_limit = h.block_limit } in
    let with : Regions → KeptStore = λ rs. record s { regions = rs } in
    let p = c.args.place in
    let v = value_of c.args.value in
    let may : MayStand s p v = subst (λ x. MayStand x p v) (sym c.self.view_is) c.requires.may in
    let there : IsThere s p = record { place = may.place; kind = c.write.ensures.whole.kind; value = c.write.ensures.whole.value } in
    let fit : IsTrue (suits (kind_at s p) (Number c.in-Number._number)) = subst (λ x. IsTrue (suits (kind_at s p) x)) (ap value_of c.in-Number.is) may.kind in
    subst (λ rs. IsCounted c.write.new.self (with rs) h.cells) (sym c.write.ensures.written)
    (counted_number h.space s h.cells c.self.invariant p there c.in-Number._number c.write.new.self fit (λ r. ap (λ ns. get_or ns r 0) c.write.ensures.counts))
