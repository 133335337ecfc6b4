use Rattle.std.proofs.Common.{◌≡◌, false, take}
use Rattle.std.specs.List.{list_any}
use Rattle.rc_prove_marks.specs.Going.{asks}
use Rattle.rc_prove_marks.proofs.asking.some_asks.Given as goal

abbrev pub invariant-loop-spot : goal.invariant-loop-spot
invariant-loop-spot l = list_any asks (take l.spot-index l.spots) ≡ false
