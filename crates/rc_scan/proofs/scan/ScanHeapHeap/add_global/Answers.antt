use Rattle.std.proofs.Common.{map}
use Rattle.rc_core.specs.Laid.{held_kind}
use Rattle.rc_core.specs.Shapes.{kinds_in}
use Rattle.rc_store.specs.Kept.{KeptStore}
use Rattle.rc_whole.proofs.Whole.{stays_whole}
use Rattle.rc_scan.proofs.Keeping.{with_regions}
use Rattle.rc_scan.proofs.scan.ScanHeapHeap.add_global.Goals as goal

pub push_object-requires : goal.push_object-requires
push_object-requires g c = c.self.invariant.root

pub invariant_of-self-2 : goal.invariant_of-self-2
invariant_of-self-2 g c =
    let h = c.self.inside in
    let s : KeptStore = record { regions = h.regions; pins = h.pins.pins; spare = h.pins.spare; region_limit = h.region_limit; block_limit = h.block_limit } in
    with_regions s _ _ c.in_ok-push_object.ensures.ok (stays_whole.allocated s 0 c.args.n (map held_kind (kinds_in c.args.kind.now)) c.self.invariant c.self.invariant.root)
