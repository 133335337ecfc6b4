use Rattle.std.proofs.Common.{◌≡◌, drop}
use Rattle.rc_store.specs.Sets.{has_child_outside}
use Rattle.rc_store.proofs.Along.{child_from}
use Rattle.rc_scan.proofs.together.has_child_outside.Given as goal

-- what is left decides
abbrev pub invariant-loop-i : goal.invariant-loop-i
invariant-loop-i g l = child_from l.set l.i (drop l.i l.regions) ≡ has_child_outside l.set l.regions
