use Rattle.std.proofs.Common.{◌≡◌, drop}
use Rattle.rc_core.specs.Shapes.{path_of, arguments_of}
use Rattle.rc_core.specs.Live.{arguments_use, path_uses}
use Rattle.rc_frames.proofs.live.+uses.Given as goal

abbrev pub invariant-any_uses-loop-e : goal.invariant-any_uses-loop-e
invariant-any_uses-loop-e l =
    arguments_use (arguments_of l.all) l.x ≡ arguments_use (arguments_of (drop l.e-index l.all)) l.x

abbrev pub invariant-path_uses-loop-step : goal.invariant-path_uses-loop-step
invariant-path_uses-loop-step l = path_uses (path_of l.path) l.x ≡ path_uses (path_of (drop l.step-index l.path)) l.x
