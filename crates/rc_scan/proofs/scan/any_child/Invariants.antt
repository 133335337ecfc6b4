use Rattle.std.proofs.Common.{◌≡◌, take, false}
use Rattle.std.specs.List.{list_any}
use Rattle.rc_store.specs.Stores.{is_child}
use Rattle.rc_scan.proofs.scan.any_child.Given as goal

abbrev pub invariant-loop-child : goal.invariant-loop-child
invariant-loop-child g l = list_any (is_child l.region) (take l.child-index l.regions) ≡ false
