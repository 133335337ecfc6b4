use Rattle.std.proofs.Common.{◌≡◌, List, drop}
use Rattle.rc_core.specs.Programs.{Struct}
use Rattle.rc_rlang.specs.RegionVariables.{codes_temporaries}
use Rattle.rc_rlang.specs.Shapes.{codes_of}
use Rattle.rc_plans.proofs.heights.+code.Given as goal

abbrev pub invariant-codes-loop-i : goal.invariant-codes-loop-i
invariant-codes-loop-i l = (structs : List Struct) → l.most ≡ codes_temporaries (codes_of structs (drop l.i l.body))
