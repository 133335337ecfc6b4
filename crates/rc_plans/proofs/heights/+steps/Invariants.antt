use Rattle.std.proofs.Common.{◌≡◌, List, drop}
use Rattle.rc_core.specs.Programs.{Struct}
use Rattle.rc_rlang.specs.RegionVariables.{steps_temporaries}
use Rattle.rc_rlang.specs.Shapes.{steps_of}
use Rattle.rc_plans.proofs.heights.+steps.Given as goal

abbrev pub invariant-steps-loop-i : goal.invariant-steps-loop-i
invariant-steps-loop-i l = (structs : List Struct) → l.most ≡ steps_temporaries (steps_of structs (drop l.i l.steps))
