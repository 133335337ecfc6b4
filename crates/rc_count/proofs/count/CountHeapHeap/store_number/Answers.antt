use Rattle.std.proofs.Common.{get_or, sym, ap, subst, rules, w64, of_z, to_z, SFits, to_z-of_z}
use Rattle.rc_core.specs.Heap.{Number}
use Rattle.rc_store.specs.Elements.{Finds, place_from}
use Rattle.rc_store.specs.Kept.{KeptStore}
use Rattle.rc_store.specs.Stores.{MayStand}
use Rattle.rc_count.proofs.Storing.{counted_stored}
use Rattle.rc_count.proofs.count.CountHeapHeap.store_number.Goals as goal

pub invariant_of-self : goal.invariant_of-self
invariant_of-self g c =
    let h = c.self.inside in
    let s : KeptStore = record { regions = h.space.regions; pins = h.pins.pins; spare = h.pins.spare; region_limit = h.region_limit; block_limit = h.block_limit } in
    let p = c.args.pointer in
    let shift : SFits w64 c.args.shift = search rules in
    let number : SFits w64 c.args.number = search rules in
    let z = to_z w64 (of_z w64 c.args.shift) in
    let n = to_z w64 (of_z w64 c.args.number) in
    counted_stored h.space s h.cells c.self.invariant p z c.args.cell n c.store_number.new.self c.store_number.result c.store_number.ensures.stores c.store_number.ensures.whole
    (λ finds.
    subst (λ y. MayStand s (place_from p y c.args.cell) (Number n)) (sym (to_z-of_z shift))
    (subst (λ m. MayStand s (place_from p c.args.shift c.args.cell) (Number m)) (sym (to_z-of_z number))
    (subst (λ (x : KeptStore). MayStand x (place_from p c.args.shift c.args.cell) (Number c.args.number)) (sym c.self.view_is)
    (c.requires.may (subst (λ (x : KeptStore). Finds x.regions p c.args.shift) c.self.view_is (subst (λ y. Finds s.regions p y) (to_z-of_z shift) finds))))))
    (λ r. ap (λ ns. get_or ns r 0) c.store_number.ensures.counts)
