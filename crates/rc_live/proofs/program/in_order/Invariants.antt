use Rattle.std.proofs.Common.{◌≡◌, ◌++◌, map, take, drop}
use Rattle.rc_rlang.specs.LiveMaps.{held_of}
use Rattle.rc_live.specs.Walking.{lowered}
use Rattle.rc_live.proofs.program.in_order.Given as goal

abbrev pub invariant-loop-held : goal.invariant-loop-held
invariant-loop-held l =
    map held_of l.held-items ≡ map (lowered l.much) (take l.held-index (map held_of l.initial.held-items)) ++ drop l.held-index (map held_of l.initial.held-items)
