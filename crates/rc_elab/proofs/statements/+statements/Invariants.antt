use Rattle.std.proofs.Common.{◌≡◌, ◌+◌, List, drop}
use Rattle.rc_core.specs.Programs.{Struct}
use Rattle.rc_core.specs.Laid.{AreLaidOut}
use Rattle.rc_core.specs.Shapes.{stmts_of}
use Rattle.rc_rlang.specs.Points.{body_points}
use Rattle.rc_elab.proofs.statements.+statements.Given as goal

abbrev pub invariant-body-loop-s : goal.invariant-body-loop-s
invariant-body-loop-s l =
    (structs : List Struct) → AreLaidOut structs l.layouts → l.rest + body_points structs (stmts_of l.body) ≡ l.left + body_points structs (stmts_of (drop l.s-index l.body))
