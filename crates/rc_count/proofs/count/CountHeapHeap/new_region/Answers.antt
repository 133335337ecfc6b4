use Rattle.std.proofs.Common.{sym, subst}
use Rattle.rc_store.specs.Kept.{KeptStore, Regions}
use Rattle.rc_store.specs.Stores.{IsLive}
use Rattle.rc_count.specs.Counted.{IsCounted}
use Rattle.rc_count.proofs.Counting.{counted_made, counted_same}
use Rattle.rc_count.proofs.count.CountHeapHeap.new_region.Goals as goal
use Rattle.rc_count.proofs.count.CountHeapHeap.new_region.Goals.{in-Ok, in-Err}

pub invariant_of-self : goal.invariant_of-self
invariant_of-self g c =
    let h = c.self.inside in
    let s : KeptStore = record { regions = h.space.regions; pins = h.pins.pins; spare = h.pins.spare; region_limit = h.region_limit; block_limit = h.block_limit } in
    let with : Regions → KeptStore = λ rs. record s { regions = rs } in
    let live : IsLive s c.args.parent = subst (λ x. IsLive x c.args.parent) (sym c.self.view_is) c.requires in
    elim c.match-add.branch [
      | in-Ok w ↦ subst (λ rs. IsCounted c.add.new.self (with rs) h.cells) (sym w.in-Ok.ensures.ok) (counted_made h.space s h.cells c.self.invariant c.add.new.self c.args.parent live w.in-Ok.ensures.counts)
      | in-Err w ↦ subst (λ rs. IsCounted c.add.new.self (with rs) h.cells) (sym w.in-Err.ensures.err) (counted_same h.space s h.cells c.self.invariant c.add.new.self w.in-Err.ensures.counts)
    ]
