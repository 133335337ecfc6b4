use Rattle.std.proofs.Common.{◌≡◌, ◌+◌, List, drop}
use Rattle.rc_core.specs.Laid.{AreLaidOut}
use Rattle.rc_core.specs.Programs.{Struct}
use Rattle.rc_rlang.specs.RegionPoints.{codes_points}
use Rattle.rc_rlang.specs.Shapes.{codes_of}
use Rattle.rc_rlang.proofs.points.+code.Given as goal

abbrev pub invariant-codes_points-loop-code : goal.invariant-codes_points-loop-code
invariant-codes_points-loop-code l = (structs : List Struct) → AreLaidOut structs l.layouts → l.count + codes_points (codes_of structs (drop l.code-index l.body)) ≡ codes_points (codes_of structs l.body)
