use Rattle.std.proofs.Common.{◌≡◌, ◌+◌, drop}
use Rattle.rc_core.specs.Shapes.{path_of, arguments_of}
use Rattle.rc_rlang.specs.Points.{arguments_points, path_points}
use Rattle.rc_elab.proofs.points.+points.Given as goal

abbrev pub invariant-arguments-loop-argument : goal.invariant-arguments-loop-argument
invariant-arguments-loop-argument l =
    l.rest + arguments_points (arguments_of l.arguments) ≡ l.left + arguments_points (arguments_of (drop l.argument-index l.arguments))

abbrev pub invariant-path-loop-step : goal.invariant-path-loop-step
invariant-path-loop-step l = l.rest + path_points (path_of l.path) ≡ l.left + path_points (path_of (drop l.step-index l.path))
