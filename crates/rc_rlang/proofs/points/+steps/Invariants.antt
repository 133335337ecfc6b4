use Rattle.std.proofs.Common.{◌≡◌, ◌+◌, List, drop}
use Rattle.rc_core.specs.Programs.{Struct}
use Rattle.rc_rlang.specs.RegionPoints.{steps_points}
use Rattle.rc_rlang.specs.Shapes.{steps_of}
use Rattle.rc_rlang.proofs.points.+steps.Given as goal

abbrev pub invariant-steps_points-loop-step : goal.invariant-steps_points-loop-step
invariant-steps_points-loop-step l = (structs : List Struct) → l.count + steps_points (steps_of structs (drop l.step-index l.steps)) ≡ steps_points (steps_of structs l.steps)
