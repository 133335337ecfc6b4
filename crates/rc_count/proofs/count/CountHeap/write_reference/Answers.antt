use Rattle.std.proofs.Common.{◌≡◌, ◌≤◌, ◌∙◌, get_or, sym, ap, subst}
use Rattle.rc_core.specs.declared.ty.Note.TheVariants.{Plain}
use Rattle.rc_store.specs.Kept.{KeptStore, Regions}
use Rattle.rc_store.specs.Stores.{MayStand, kind_at, live_in}
use Rattle.rc_store.specs.Values.{note_of, value_of}
use Rattle.rc_cells.specs.Follow.{IsThere}
use Rattle.rc_tally.specs.Tally.{value_refs}
use Rattle.rc_count.specs.Counted.{IsCounted}
use Rattle.rc_count.proofs.Counting.{counted_written, fresh_live, live_with, new_few, old_few}
use Rattle.rc_count.proofs.count.CountHeap.write_reference.Goals as goal

pub take_back-requires : goal.take_back-requires
take_back-requires g c =
    let h = c.self.inside in
    let s : KeptStore = record { regions = h.space.regions; pins = h.pins.pins; spare = h.pins.spare; region_limit = h.region_limit; block_limit = h.block_limit } in
    let p = c.args.place in
    let v = value_of c.args.value in
    let may : MayStand s p v = subst (λ x. MayStand x p v) (sym c.self.view_is) c.requires.may in
    let whole = c.replace-old.ensures.whole in
    let there : IsThere s p = record { place = may.place; kind = whole.kind; value = whole.value } in
    let plain : note_of (kind_at s p) ≡ Plain = subst (λ x. note_of (kind_at x p) ≡ Plain) (sym c.self.view_is) c.requires.plain in
    λ r. subst (λ ns. value_refs r p.pointer.region (value_of c.replace-old.result) ≤ get_or ns r 0) (sym c.replace-old.ensures.counts)
    (old_few h.space s h.cells c.self.invariant p there v (value_of c.replace-old.result) c.replace-old.ensures.before plain whole.suits may.kind r)

pub give-requires-clause-live : goal.give-requires-clause-live
give-requires-clause-live g c =
    let h = c.self.inside in
    let s : KeptStore = record { regions = h.space.regions; pins = h.pins.pins; spare = h.pins.spare; region_limit = h.region_limit; block_limit = h.block_limit } in
    let p = c.args.place in
    let v = value_of c.args.value in
    let may : MayStand s p v = subst (λ x. MayStand x p v) (sym c.self.view_is) c.requires.may in
    let whole = c.replace-old.ensures.whole in
    let there : IsThere s p = record { place = may.place; kind = whole.kind; value = whole.value } in
    let plain : note_of (kind_at s p) ≡ Plain = subst (λ x. note_of (kind_at x p) ≡ Plain) (sym c.self.view_is) c.requires.plain in
    λ r some. ap (λ rs. live_in rs r) (c.take_back.ensures.regions ∙ c.replace-old.ensures.written) ∙ live_with s.regions p.pointer.region r _ ∙ fresh_live s p.pointer.region r v may.fresh some

pub give-requires-clause-few : goal.give-requires-clause-few
give-requires-clause-few g c =
    let h = c.self.inside in
    let s : KeptStore = record { regions = h.space.regions; pins = h.pins.pins; spare = h.pins.spare; region_limit = h.region_limit; block_limit = h.block_limit } in
    let p = c.args.place in
    let v = value_of c.args.value in
    let may : MayStand s p v = subst (λ x. MayStand x p v) (sym c.self.view_is) c.requires.may in
    let whole = c.replace-old.ensures.whole in
    let there : IsThere s p = record { place = may.place; kind = whole.kind; value = whole.value } in
    let plain : note_of (kind_at s p) ≡ Plain = subst (λ x. note_of (kind_at x p) ≡ Plain) (sym c.self.view_is) c.requires.plain in
    new_few h.space s h.cells c.self.invariant p there v (value_of c.replace-old.result) c.replace-old.ensures.before plain whole.suits may.kind c.take_back.new.self (λ r. c.take_back.ensures.counts r ∙ ap (λ ns. get_or ns r 0) c.replace-old.ensures.counts)

pub invariant_of-self : goal.invariant_of-self
invariant_of-self g c =
    let h = c.self.inside in
    let s : KeptStore = record { regions = h.space.regions; pins = h.pins.pins; spare = h.pins.spare; region_limit = h.region_limit; block_limit = h.block_limit } in
    let p = c.args.place in
    let v = value_of c.args.value in
    let may : MayStand s p v = subst (λ x. MayStand x p v) (sym c.self.view_is) c.requires.may in
    let whole = c.replace-old.ensures.whole in
    let there : IsThere s p = record { place = may.place; kind = whole.kind; value = whole.value } in
    let plain : note_of (kind_at s p) ≡ Plain = subst (λ x. note_of (kind_at x p) ≡ Plain) (sym c.self.view_is) c.requires.plain in
    let with : Regions → KeptStore = λ rs. record s { regions = rs } in
    subst (λ rs. IsCounted c.give.new.self (with rs) h.cells) (sym (c.give.ensures.regions ∙ c.take_back.ensures.regions ∙ c.replace-old.ensures.written))
    (counted_written h.space s h.cells c.self.invariant p there v (value_of c.replace-old.result) c.replace-old.ensures.before plain whole.suits may.kind c.take_back.new.self
    (λ r. c.take_back.ensures.counts r ∙ ap (λ ns. get_or ns r 0) c.replace-old.ensures.counts) c.give.new.self may.fresh c.give.ensures.counts)
