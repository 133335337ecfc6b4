use Rattle.std.proofs.Common.{◌≡◌, ◌<◌, ◌∷◌, length, map, slice_index_or, sym, ap, subst, IsPermutation}
use Rattle.rc_store.specs.Stores.{PinsState}
use Rattle.rc_store.specs.Values.{value_of}
use Rattle.rc_store.proofs.Pinned.{taken_out}
use Rattle.rc_store.proofs.pins.Pins.unpin.Goals as goal

pub returns-clause-pins : goal.returns-clause-pins
returns-clause-pins c =
    let items = c.self.inside.cells.items in
    let at = c.place_of-at.result in
    let below = subst (λ cells. at < length cells) c.deref.ensures.value c.place_of-at.ensures.below in
    let is = subst (λ cells. value_of (slice_index_or cells at c.args.value) ≡ value_of c.args.value) c.deref.ensures.value c.place_of-at.ensures.is in
    let taken = taken_out items at c.swap_remove.result c.args.value below c.swap_remove.ensures.value is in
    subst (λ pins. IsPermutation pins (value_of c.args.value ∷ map value_of c.swap_remove.new.self.items)) (ap (λ (p : PinsState). p.pins) c.self.view_is)
    (subst (λ rest. IsPermutation (map value_of items) (value_of c.args.value ∷ map value_of rest)) (sym c.swap_remove.ensures.items) taken)
