use Rattle.std.proofs.Common.{◌≡◌, ◌-◌, ◌∙◌, false, None, set as slice_set, sym, ap, subst, arith}
use Rattle.rc_store.specs.Kept.{KeptStore, Regions, refs}
use Rattle.rc_store.specs.Stores.{IsLive, cells_in, deleted, has_child, region_at}
use Rattle.rc_count.specs.Counted.{IsCounted}
use Rattle.rc_count.proofs.Counting.{cells_few, counted_deleted, held_few}
use Rattle.rc_count.proofs.count.CountHeap.let_go.Goals as goal

pub take_back_region-requires-clause-enough : goal.take_back_region-requires-clause-enough
take_back_region-requires-clause-enough g c =
    let h = c.self.inside in
    let s : KeptStore = record { regions = h.space.regions; pins = h.pins.pins; spare = h.pins.spare; region_limit = h.region_limit; block_limit = h.block_limit } in
    held_few h.space s h.cells c.self.invariant c.args.region (subst (λ x. IsLive x c.args.region) (sym c.self.view_is) c.requires.live)

pub overflow_sub-self : goal.overflow_sub-self
overflow_sub-self g c =
    let h = c.self.inside in
    let s : KeptStore = record { regions = h.space.regions; pins = h.pins.pins; spare = h.pins.spare; region_limit = h.region_limit; block_limit = h.block_limit } in
    let few = cells_few h.space s h.cells c.self.invariant c.args.region (subst (λ x. IsLive x c.args.region) (sym c.self.view_is) c.requires.live) in
    omega (arith, few, c.cells.ensures, ap (λ rs. cells_in (region_at rs c.args.region)) c.take_back_region.ensures.regions)

pub invariant_of-self : goal.invariant_of-self
invariant_of-self g c =
    let h = c.self.inside in
    let s : KeptStore = record { regions = h.space.regions; pins = h.pins.pins; spare = h.pins.spare; region_limit = h.region_limit; block_limit = h.block_limit } in
    let with : Regions → KeptStore = λ rs. record s { regions = rs } in
    let regions : c.remove.new.self.regions ≡ (deleted c.args.region s).regions = c.remove.ensures.regions ∙ ap (λ rs. slice_set rs c.args.region None) c.take_back_region.ensures.regions in
    subst (λ rs. IsCounted c.remove.new.self (with rs) (h.cells - c.cells.result)) (sym regions)
    (counted_deleted h.space s h.cells c.self.invariant c.args.region (subst (λ x. IsLive x c.args.region) (sym c.self.view_is) c.requires.live) c.remove.new.self (h.cells - c.cells.result)
    c.requires.not_root (subst (λ x. has_child x c.args.region ≡ false) (sym c.self.view_is) c.requires.childless) (subst (λ x. refs x c.args.region ≡ 0) (sym c.self.view_is) c.requires.unnamed)
    (λ r. omega (arith, c.remove.ensures.counts r, c.take_back_region.ensures.counts r))
    (ap (λ n. h.cells - n) (c.cells.ensures ∙ ap (λ rs. cells_in (region_at rs c.args.region)) c.take_back_region.ensures.regions)))
