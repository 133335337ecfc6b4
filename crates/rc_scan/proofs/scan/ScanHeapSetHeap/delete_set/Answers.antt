use Rattle.std.proofs.Common.{◌≡◌, ◌<◌, ◌∙◌, false, refl, sym, ap, subst, rules}
use Rattle.std.specs.List.{Contains}
use Rattle.std.proofs.lemmas.Bool.{false≢true}
use Rattle.rc_store.specs.Kept.{KeptStore}
use Rattle.rc_store.specs.Sets.{has_child_outside, set_refs}
use Rattle.rc_store.specs.Whole.{IsWhole}
use Rattle.rc_whole.proofs.Whole.{stays_whole}
use Rattle.rc_scan.proofs.Zero.{none_is_zero}
use Rattle.rc_scan.proofs.scan.ScanHeapSetHeap.delete_set.Goals as goal

pub invariant_of-self : goal.invariant_of-self
invariant_of-self g c =
    let h = c.self.inside in
    let s : KeptStore = record { regions = h.regions; pins = h.pins.pins; spare = h.pins.spare; region_limit = h.region_limit; block_limit = h.block_limit } in
    let set = c.args.set.now in
    let below : ¬ Contains set 0 = search rules in
    let closed : has_child_outside set s.regions ≡ false = ap (has_child_outside set) (sym c.slots.ensures) ∙ sym c.has_child_outside.ensures ∙ c.if-has_child_outside.false in
    let unnamed : set_refs s set ≡ 0 = none_is_zero (set_refs s set) (λ some. false≢true (sym c.if-is_set_named.false ∙ c.is_set_named.ensures.found.1 (subst (λ x. 0 < set_refs x set) c.self.view_is some))) in
    subst IsWhole (c.let_all_go.ensures s refl) (stays_whole.deleted_all s set c.self.invariant below closed unnamed)
