use Rattle.std.proofs.Common.{map, sym, subst}
use Rattle.rc_core.specs.Laid.{held_kind}
use Rattle.rc_core.specs.Shapes.{kinds_in}
use Rattle.rc_store.specs.Kept.{KeptStore}
use Rattle.rc_store.specs.Stores.{IsLive}
use Rattle.rc_whole.proofs.Whole.{stays_whole}
use Rattle.rc_scan.proofs.Keeping.{with_regions}
use Rattle.rc_scan.proofs.scan.ScanHeapHeap.allocate.Goals as goal
use Rattle.rc_scan.proofs.scan.ScanHeapHeap.allocate.Goals.{in-Ok, in-Err}

pub invariant_of-self : goal.invariant_of-self
invariant_of-self g c =
    let h = c.self.inside in
    let s : KeptStore = record { regions = h.regions; pins = h.pins.pins; spare = h.pins.spare; region_limit = h.region_limit; block_limit = h.block_limit } in
    let live : IsLive s c.args.region = subst (λ x. IsLive x c.args.region) (sym c.self.view_is) c.requires.live in
    elim c.match-push_object.branch [
      | in-Ok w ↦ with_regions s _ _ w.in-Ok.ensures.ok (stays_whole.allocated s c.args.region c.args.n (map held_kind (kinds_in c.args.kind.now)) c.self.invariant live)
      | in-Err w ↦ with_regions s _ _ w.in-Err.ensures.err c.self.invariant
    ]
