use Rattle.std.proofs.Common.{ap}
use Rattle.rc_store.specs.Stores.{PinsState}
use Rattle.rc_whole.proofs.Whole.{stays_whole}
use Rattle.rc_scan.proofs.scan.ScanHeap.new.Goals as goal

pub invariant_of-result : goal.invariant_of-result
invariant_of-result g c = stays_whole.new _ (record { regions = c.in_ok-new.ensures; pins = ap (λ (p : PinsState). p.pins) c.new-2.ensures })
