use Rattle.std.proofs.Common.{◌≡◌, map, take}
use Rattle.rc_pinning.specs.Stops.{stop_in}
use Rattle.rc_pinning.proofs.stops.stops_of.Given as goal

abbrev pub invariant-loop-at : goal.invariant-loop-at
invariant-loop-at l = l.stops.items ≡ map (stop_in l.function) (take l.at l.function.code)
