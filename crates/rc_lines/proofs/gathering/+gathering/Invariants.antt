use Rattle.std.proofs.Common.{◌+◌, ◌*◌, []}
use Rattle.rc_rlang.specs.RegionPoints.{steps_points, step_points}
use Rattle.rc_rlang.specs.Shapes.{step_of, steps_of}
use Rattle.rc_lines.proofs.Gathers.{Gathering}
use Rattle.rc_lines.proofs.gathering.+gathering.Given as goal

-- a step has more points than its ways, and the walk over steps is above the step

abbrev pub decreases-gather : goal.decreases-gather
decreases-gather l = 2 * steps_points (steps_of [] l.steps.now) + 1

abbrev pub decreases-gather_fork : goal.decreases-gather_fork
decreases-gather_fork l = 2 * step_points (step_of [] l.step.now)

abbrev pub invariant-gather-loop-step : goal.invariant-gather-loop-step
invariant-gather-loop-step l = Gathering l.fn.out.items l.steps l.base l.out.items l.operands.items l.step-index
