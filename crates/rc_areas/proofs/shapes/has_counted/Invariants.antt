use Rattle.std.proofs.Common.{◌≡◌, false, take}
use Rattle.rc_areas.specs.Shapes.{has_counted}
use Rattle.rc_areas.proofs.shapes.has_counted.Given as goal

abbrev pub invariant-loop-kind : goal.invariant-loop-kind
invariant-loop-kind l = has_counted (take l.kind-index l.kinds) ≡ false
