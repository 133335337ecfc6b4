use Rattle.std.proofs.Common.{◌≡◌, ◌+◌, List, map, drop}
use Rattle.std.specs.Prelude.{sum}
use Rattle.rc_core.specs.Programs.{Struct}
use Rattle.rc_core.specs.Laid.{AreLaidOut}
use Rattle.rc_core.specs.Shapes.{function_of}
use Rattle.rc_rlang.specs.Points.{function_points}
use Rattle.rc_elab.proofs.counting.points_left.Given as goal

abbrev pub invariant-loop-f : goal.invariant-loop-f
invariant-loop-f l =
    (structs : List Struct) → AreLaidOut structs l.layouts →
    l.left + sum (map (function_points structs) (map function_of l.functions)) ≡ 65536 + sum (map (function_points structs) (map function_of (drop l.f-index l.functions)))
