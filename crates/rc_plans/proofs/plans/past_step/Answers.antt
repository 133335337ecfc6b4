use Rattle.std.proofs.Common.{◌≡◌, ◌+◌, sym, ap, subst, arith}
use Rattle.rc_rlang.specs.Counted.{Counted}
use Rattle.rc_rlang.specs.RegionPoints.{step_points, steps_points}
use Rattle.rc_rlang.specs.Shapes.{step_of, steps_of}
use Rattle.rc_plans.proofs.plans.past_step.Goals as goal

pub returns-in_err-steps_points : goal.returns-in_err-steps_points
returns-in_err-steps_points c structs =
    let over = c.in_err-steps_points.ensures structs in
    let alone = ap (λ xs. steps_points (steps_of structs xs)) c.from_ref.ensures.value in
    subst (λ r. Counted r (c.args.here + step_points (step_of structs c.args.step.now))) (sym c.from_residual.ensures) (omega (arith, over, alone))

pub returns : goal.returns
returns c structs =
    let counted = c.in_ok-steps_points.ensures structs in
    let alone = ap (λ xs. steps_points (steps_of structs xs)) c.from_ref.ensures.value in
    let e : c.args.here + c.in_ok-steps_points.field-0 ≡ c.args.here + step_points (step_of structs c.args.step.now) = omega (arith, counted, alone) in
    subst (Counted c.sum.result) e c.sum.ensures
