use Rattle.std.proofs.Common.{◌≡◌, ◌≤◌, ◌+◌, ◌∙◌, List, length, sym, ap, subst, arith}
use Rattle.rc_core.specs.Heap.{Value}
use Rattle.rc_store.specs.Kept.{KeptStore}
use Rattle.rc_store.specs.Stores.{all_cells}
use Rattle.rc_count.specs.Counted.{IsCounted}
use Rattle.rc_count.proofs.Counting.{counted_spared}
use Rattle.rc_count.proofs.count.CountHeapHeap.reserve_pins.Goals as goal

pub invariant_of-self : goal.invariant_of-self
invariant_of-self g c =
    let h = c.self.inside in
    let s : KeptStore = record { regions = h.space.regions; pins = h.pins.pins; spare = h.pins.spare; region_limit = h.region_limit; block_limit = h.block_limit } in
    let total = c.in_ok-with_cells.field-0 in
    let is : total ≡ all_cells s + c.args.n = c.in_ok-with_cells.ensures.total ∙ ap (λ x. all_cells x + c.args.n) (sym c.self.view_is) in
    let few : total + length s.pins + s.spare ≤ 18446744073709551615 = subst (λ (x : KeptStore). total + length x.pins + x.spare ≤ 18446744073709551615) (sym c.self.view_is) c.in_ok-with_cells.ensures.few in
    let room : h.cells + length s.pins + c.reserve.new.self.spare ≤ 18446744073709551615 = omega (arith, is, few, c.self.invariant.sum, c.reserve.ensures.most) in
    subst (λ (ps : List Value). IsCounted h.space (record s { pins = ps; spare = c.reserve.new.self.spare }) h.cells) (sym c.reserve.ensures.pins)
    (counted_spared h.space s h.cells c.self.invariant c.reserve.new.self.spare room)
