use Rattle.std.proofs.Common.{rules, ◌∙◌, IsTrue, refl, sym, ap, subst}
use Rattle.rc_core.specs.Runs.{Run}
use Rattle.rc_core.specs.Programs.{call}
use Rattle.rc_core.specs.Shapes.{arguments_of, expr_of, program_of}
use Rattle.rc_core.proofs.ShapeRows.{call_is}
use Rattle.rc_slow.specs.declared.machine.Machine.{Machine as CodeMachine}
use Rattle.rc_slow.specs.Advancing.{Leads, standing, state_at}
use Rattle.rc_frames.specs.Codes.{frames_of}
use Rattle.rc_memory.specs.KeptWorld.{KeptWorld}
use Rattle.rc_nodes.specs.Stepping.{begin, needs_no_world}
use Rattle.rc_slow.specs.Whole.{Progress, evaluate_step}
use Rattle.rc_slow.proofs.Alone.{alone_code}
use Rattle.rc_slow.proofs.Advances.{alone_needs, alone_step, stays}
use Rattle.rc_nodes.proofs.Results.{comes_run, if_ok_map}
use Rattle.rc_slow.proofs.machine.begin_evaluation.Goals as goal

pub returns-in-Call : goal.returns-in-Call
returns-in-Call c = λ k w laid.
    let program = program_of c.args.setting.now.parts.now in
    let limits = c.args.setting.now.limits in
    let m0 = c.args.machine.now in
    let s = state_at k m0 in
    let fs = frames_of m0.now.frames in
    let env = m0.now.locals in
    let W = standing limits m0 w in
    let P : Run KeptWorld Progress → Type 0 = λ r. Leads limits c.begin_call.result c.begin_call.new.machine w (r) in
    c.proceed.ensures limits c.begin_call.new.machine w _
    (subst P
    (ap (λ l. evaluate_step program (call c.in-Call.line c.in-Call.function (arguments_of l)) s W) c.deref.ensures.value
    ∙ ap (λ e. evaluate_step program e s W) (sym (call_is c.args.e.now c.in-Call.line c.in-Call.function c.in-Call.arguments c.in-Call.is)))
    (c.begin_call.ensures k c.in-Call.line w))

pub returns-in-NewRegion : goal.returns-in-NewRegion
returns-in-NewRegion c = λ k w laid.
    let program = program_of c.args.setting.now.parts.now in
    let limits = c.args.setting.now.limits in
    let m0 = c.args.machine.now in
    let s = state_at k m0 in
    let fs = frames_of m0.now.frames in
    let env = m0.now.locals in
    let W = standing limits m0 w in
    let m1 : CodeMachine = record m0 { heap = c.make_region.new.heap } in
    let P : Run KeptWorld Progress → Type 0 = λ r. Leads limits c.make_region.result m1 w (r) in
    c.proceed-in-NewRegion.ensures limits m1 w _
    (subst P (sym (ap (λ e. evaluate_step program (expr_of e) s W) c.in-NewRegion.is))
    (stays program limits c.make_region.result m1 s w W _ fs env (record { acts = refl; input = refl }) (λ control. refl)
    (c.make_region.ensures program fs env W refl refl)))

pub returns-in_default : goal.returns-in_default
returns-in_default c = λ k w laid.
    let program = program_of c.args.setting.now.parts.now in
    let limits = c.args.setting.now.limits in
    let m0 = c.args.machine.now in
    let s = state_at k m0 in
    let env = m0.now.locals in
    let W = standing limits m0 w in
    let alone = alone_code c.args.e.now c.in_default.not-Call c.in_default.not-NewRegion c.in_default.not-Getchar in
    let needs_none = alone_needs program limits (expr_of c.args.e.now) alone in
    let needs : IsTrue (needs_no_world (expr_of c.args.e.now)) = search rules in
    let m1 : CodeMachine = record m0 { now = record m0.now { frames = c.begin_expression.new.frames } } in
    let new = frames_of c.begin_expression.new.frames in
    let run = begin program (expr_of c.args.e.now) (frames_of m0.now.frames) env W in
    let P : Run KeptWorld Progress → Type 0 = λ r. Leads limits c.begin_expression.result m1 w r in
    c.proceed-in_default.ensures limits m1 w _
    (subst P (sym (alone_step program limits (expr_of c.args.e.now) s W alone))
    (stays program limits c.begin_expression.result m1 s w W run new env (record { acts = refl; input = refl }) (λ control. refl)
    (comes_run c.begin_expression.result new env W run (if_ok_map c.begin_expression.result _ _ (λ x h. h needs W) c.begin_expression.ensures.begins) c.begin_expression.ensures.memory)))
