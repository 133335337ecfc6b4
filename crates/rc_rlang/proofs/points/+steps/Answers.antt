use Rattle.std.proofs.Common.{◌≡◌, ◌+◌, sym, ap, subst, arith}
use Rattle.rc_rlang.specs.Counted.{Counted}
use Rattle.rc_rlang.specs.RegionPoints.{step_points, steps_points}
use Rattle.rc_rlang.specs.Shapes.{step_of, steps_of}
use Rattle.rc_rlang.proofs.Totals.{fork_points}
use Rattle.rc_rlang.proofs.points.+steps.Goals as goal

pub step_points-returns-in_err-first-in-Fork : goal.step_points-returns-in_err-first-in-Fork
step_points-returns-in_err-first-in-Fork t c structs =
    let i = c.in-Fork in
    let f = fork_points structs c.args.step.now i.line i.temporary i.test i.result i.yes i.no i.is in
    let a = c.in_err-first-in-Fork.ensures structs in
    let va = ap (λ s. steps_points (steps_of structs s)) c.as_slice.ensures.value in
    subst (λ r. Counted r (step_points (step_of structs c.args.step.now))) (sym c.from_residual.ensures) (omega (arith, f, a, va))

pub step_points-returns-in_err-second-in-Fork : goal.step_points-returns-in_err-second-in-Fork
step_points-returns-in_err-second-in-Fork t c structs =
    let i = c.in-Fork in
    let f = fork_points structs c.args.step.now i.line i.temporary i.test i.result i.yes i.no i.is in
    let b = c.in_err-second-in-Fork.ensures structs in
    let vb = ap (λ s. steps_points (steps_of structs s)) c.as_slice-in-Fork.ensures.value in
    subst (λ r. Counted r (step_points (step_of structs c.args.step.now))) (sym c.from_residual-in_err-second-in-Fork.ensures) (omega (arith, f, b, vb))

pub step_points-returns-in_err-sum-in-Fork : goal.step_points-returns-in_err-sum-in-Fork
step_points-returns-in_err-sum-in-Fork t c structs =
    let i = c.in-Fork in
    let f = fork_points structs c.args.step.now i.line i.temporary i.test i.result i.yes i.no i.is in
    let a = c.in_ok-first-in-Fork.ensures structs in
    let va = ap (λ s. steps_points (steps_of structs s)) c.as_slice.ensures.value in
    let s = c.in_err-sum-in-Fork.ensures in
    subst (λ r. Counted r (step_points (step_of structs c.args.step.now))) (sym c.from_residual-in_err-sum-in-Fork.ensures) (omega (arith, f, a, va, s))

pub step_points-returns-in_ok-sum-in-Fork : goal.step_points-returns-in_ok-sum-in-Fork
step_points-returns-in_ok-sum-in-Fork t c structs =
    let i = c.in-Fork in
    let f = fork_points structs c.args.step.now i.line i.temporary i.test i.result i.yes i.no i.is in
    let a = c.in_ok-first-in-Fork.ensures structs in
    let b = c.in_ok-second-in-Fork.ensures structs in
    let va = ap (λ s. steps_points (steps_of structs s)) c.as_slice.ensures.value in
    let vb = ap (λ s. steps_points (steps_of structs s)) c.as_slice-in-Fork.ensures.value in
    let s = c.in_ok-sum-in-Fork.ensures in
    let e : c.in_ok-sum-in-Fork.field-0 + c.in_ok-second-in-Fork.second ≡ step_points (step_of structs c.args.step.now) = omega (arith, f, a, b, va, vb, s) in
    subst (Counted c.sum-in-Fork.result) e c.sum-in-Fork.ensures
