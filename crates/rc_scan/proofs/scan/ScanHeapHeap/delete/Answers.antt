use Rattle.std.proofs.Common.{◌≡◌, ◌<◌, ◌∙◌, false, sym, ap, subst}
use Rattle.std.specs.List.{list_any}
use Rattle.std.proofs.lemmas.Bool.{false≢true}
use Rattle.rc_store.specs.Kept.{KeptStore, refs}
use Rattle.rc_store.specs.Stores.{has_child, is_child}
use Rattle.rc_whole.proofs.Whole.{stays_whole}
use Rattle.rc_scan.proofs.Keeping.{with_regions}
use Rattle.rc_scan.proofs.Zero.{none_is_zero}
use Rattle.rc_scan.proofs.scan.ScanHeapHeap.delete.Goals as goal

pub invariant_of-self : goal.invariant_of-self
invariant_of-self g c =
    let h = c.self.inside in
    let s : KeptStore = record { regions = h.regions; pins = h.pins.pins; spare = h.pins.spare; region_limit = h.region_limit; block_limit = h.block_limit } in
    let r = c.args.region in
    let childless : has_child s r ≡ false = ap (list_any (is_child r)) (sym c.slots.ensures) ∙ sym c.any_child.ensures ∙ c.if-any_child.false in
    let unnamed : refs s r ≡ 0 = none_is_zero (refs s r) (λ some. false≢true (sym c.if-is_named.false ∙ c.is_named.ensures.found.1 (subst (λ x. 0 < refs x r) c.self.view_is some))) in
    with_regions s _ _ c.let_go.ensures (stays_whole.deleted s r c.self.invariant c.if-region-eq0.false childless unnamed)
