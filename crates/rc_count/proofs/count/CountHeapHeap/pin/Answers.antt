use Rattle.std.proofs.Common.{◌<◌, ◌++◌, ◌∷◌, [], List, sym, subst}
use Rattle.rc_core.specs.Heap.{Value}
use Rattle.rc_store.specs.Kept.{KeptStore}
use Rattle.rc_store.specs.Stores.{IsFresh}
use Rattle.rc_store.specs.Values.{value_of}
use Rattle.rc_count.specs.Counted.{IsCounted}
use Rattle.rc_count.proofs.Counting.{counted_pinned, pin_few}
use Rattle.rc_count.proofs.count.CountHeapHeap.pin.Goals as goal

pub pin-requires-2-clause-few : goal.pin-requires-2-clause-few
pin-requires-2-clause-few g c =
    let h = c.self.inside in
    let s : KeptStore = record { regions = h.space.regions; pins = h.pins.pins; spare = h.pins.spare; region_limit = h.region_limit; block_limit = h.block_limit } in
    let room : 0 < s.spare = subst (λ (x : KeptStore). 0 < x.spare) (sym c.self.view_is) c.requires.spare in
    λ r. pin_few h.space s h.cells c.self.invariant (value_of c.args.value) r room

pub invariant_of-self : goal.invariant_of-self
invariant_of-self g c =
    let h = c.self.inside in
    let s : KeptStore = record { regions = h.space.regions; pins = h.pins.pins; spare = h.pins.spare; region_limit = h.region_limit; block_limit = h.block_limit } in
    let v = value_of c.args.value in
    let fresh : IsFresh s v = subst (λ x. IsFresh x v) (sym c.self.view_is) c.requires.fresh in
    subst (λ (ps : List Value). IsCounted c.pin-2.new.self (record s { regions = c.pin-2.new.self.regions; pins = ps; spare = c.pin.new.self.spare }) h.cells) (sym c.pin.ensures.pins)
    (subst (λ rs. IsCounted c.pin-2.new.self (record s { regions = rs; pins = s.pins ++ v ∷ []; spare = c.pin.new.self.spare }) h.cells) (sym c.pin-2.ensures.regions)
    (counted_pinned h.space s h.cells c.self.invariant v c.pin.new.self.spare c.pin-2.new.self fresh c.pin.ensures.spare c.pin-2.ensures.counts))
