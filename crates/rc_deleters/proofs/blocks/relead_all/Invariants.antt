use Rattle.std.proofs.Common.{◌≡◌, ◌++◌, map, take, drop}
use Rattle.rc_deleters.specs.Calls.{first_in, releading}
use Rattle.rc_deleters.proofs.blocks.relead_all.Given as goal

abbrev pub invariant-loop-at : goal.invariant-loop-at
invariant-loop-at l = l.stops ≡ map (releading (first_in l.firsts)) (take l.at l.fn.stops) ++ drop l.at l.fn.stops
