use Rattle.std.proofs.Common.{◌≡◌, drop, sym, ap, subst, arith}
use Rattle.rc_core.specs.Shapes.{ty_of}
use Rattle.rc_rlang.specs.Shapes.{operation_of, step_of, steps_of}
use Rattle.rc_rlang.proofs.CodeRows.{fork_is}
use Rattle.rc_live.specs.Walking.{structs_in, OperationDone, StepDone, StepsDone}
use Rattle.rc_live.proofs.Back.{set_done, fork_done, more_done, if_ok_more, steps_at}
use Rattle.rc_live.proofs.walk.+steps.Goals as goal

pub step-returns-in-Set : goal.step-returns-in-Set
step-returns-in-Set t c types l s h =
    let x = c.args.context.now in
    let structs = structs_in x.parts.now in
    let i = c.in-Set in
    if_ok_more c.operation.result (λ row. OperationDone x types (operation_of structs i.done) l row c.args.walk.now c.operation.new.walk) (λ row. StepDone x types (step_of structs c.args.step.now) l row c.args.walk.now c.operation.new.walk)
    (λ row d. subst (λ one. StepDone x types one l row c.args.walk.now c.operation.new.walk) (sym (ap (step_of structs) i.is)) (set_done x types i.line i.temporary (ty_of i.ty) (operation_of structs i.done) l row c.args.walk.now c.operation.new.walk d))
    (c.operation.ensures types l s h)

pub step-returns-in_ok-live_yes-in-Fork : goal.step-returns-in_ok-live_yes-in-Fork
step-returns-in_ok-live_yes-in-Fork t c types l s h =
    let x = c.args.context.now in
    let structs = structs_in x.parts.now in
    let i = c.in-Fork in
    let of_no = subst (λ xs. StepsDone x types (steps_of structs xs) l c.in_ok-live_no-in-Fork.live_no c.args.walk.now c.steps.new.walk) c.as_slice.ensures.value (c.in_ok-live_no-in-Fork.ensures types l s h) in
    let of_yes = subst (λ xs. StepsDone x types (steps_of structs xs) l c.in_ok-live_yes-in-Fork.live_yes c.steps.new.walk c.steps-in-Fork.new.walk) c.as_slice-in-Fork.ensures.value (c.in_ok-live_yes-in-Fork.ensures types l s h) in
    subst (λ one. StepDone x types one l c.union.result c.args.walk.now c.pass.new.self)
    (sym (fork_is structs c.args.step.now i.line i.temporary i.test i.result i.yes i.no i.is))
    (fork_done x types i.line i.temporary (ty_of i.test) (ty_of i.result) (steps_of structs i.yes.items) (steps_of structs i.no.items) l c.in_ok-live_yes-in-Fork.live_yes c.in_ok-live_no-in-Fork.live_no c.union.result c.args.walk.now c.steps.new.walk c.steps-in-Fork.new.walk c.pass.new.self of_no of_yes c.pass.ensures c.union.ensures)

pub steps-loop-i-preserved : goal.steps-loop-i-preserved
steps-loop-i-preserved t c types l s h =
    let x = c.args.context.now in
    let structs = structs_in x.parts.now in
    let i = c.loop-i.i in
    let later = steps_of structs (drop i c.args.steps.now) in
    let r = c.loop-i.invariant types l s h in
    subst (λ all. StepsDone x types all l c.in_ok-row.row c.args.walk.now c.step.new.walk)
    (sym (steps_at structs c.args.steps.now i c.index-steps-i.result c.loop-i-test.true c.loop-i.auto.i c.index-steps-i.is))
    (more_done x types (step_of structs c.index-steps-i.result) later l c.loop-i.row c.in_ok-row.row c.args.walk.now c.loop-i.walk c.step.new.walk r (c.in_ok-row.ensures types _ s r.shows))

pub steps-returns : goal.steps-returns
steps-returns t c types l s h =
    let x = c.args.context.now in
    let f = c.loop-i-test.false in
    let k : c.loop-i.i ≡ 0 = omega (arith, f) in
    subst (λ i. StepsDone x types (steps_of (structs_in x.parts.now) (drop i c.args.steps.now)) l c.loop-i.row c.args.walk.now c.loop-i.walk) k (c.loop-i.invariant types l s h)
