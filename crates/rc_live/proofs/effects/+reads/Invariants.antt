use Rattle.std.proofs.Common.{List, drop}
use Rattle.rc_core.specs.Programs.{Struct}
use Rattle.rc_rlang.specs.Shapes.{steps_of}
use Rattle.rc_live.proofs.Doing.{ReadsUpTo}
use Rattle.rc_live.proofs.effects.+reads.Given as goal

abbrev pub invariant-reads-loop-step : goal.invariant-reads-loop-step
invariant-reads-loop-step l = (structs : List Struct) → ReadsUpTo l.names l.row (steps_of structs l.steps) (steps_of structs (drop l.step-index l.steps))
