use Rattle.std.proofs.Common.{◌+◌, ◌*◌}
use Rattle.rc_rlang.specs.RegionPoints.{steps_points, step_points}
use Rattle.rc_lines.specs.Over.{steps_in, step_in}
use Rattle.rc_lines.proofs.Walking.{Going}
use Rattle.rc_lines.proofs.forks.+steps.Given as goal

-- a step has more points than its ways, and the walk over steps is above the step

abbrev pub decreases-steps : goal.decreases-steps
decreases-steps l = 2 * steps_points (steps_in l.body.now l.steps.now) + 1

abbrev pub decreases-two_ways : goal.decreases-two_ways
decreases-two_ways l = 2 * step_points (step_in l.body.now l.step.now)

abbrev pub invariant-steps-loop-step : goal.invariant-steps-loop-step
invariant-steps-loop-step l = Going l.body l.fn.out.items l.steps l.base l.point l.out.items l.operands.items l.here l.step-index
