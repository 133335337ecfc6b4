use Rattle.std.proofs.Common.{◌∙◌, ◌∷◌, refl, sym, ap, subst}
use Rattle.rc_core.specs.Runs.{Run, Go}
use Rattle.rc_core.specs.Execution.{calls_within}
use Rattle.rc_core.specs.Shapes.{expr_of, function_of, place_of, program_of}
use Rattle.rc_slow.specs.declared.machine.Machine.{Machine as CodeMachine}
use Rattle.rc_slow.specs.Advancing.{Advances, Leads, standing, state_at}
use Rattle.rc_frames.specs.Codes.{frame_of, frames_of}
use Rattle.rc_memory.specs.KeptWorld.{KeptWorld, kept}
use Rattle.rc_nodes.specs.Stepping.{pointer_step, second_step}
use Rattle.rc_values.specs.Values.{value_of}
use Rattle.rc_slow.specs.Whole.{Progress, give_step, staying}
use Rattle.rc_slow.proofs.Advances.{stays}
use Rattle.rc_nodes.proofs.Results.{comes_doing, if_ok_map}
use Rattle.rc_slow.proofs.machine.value_to_frame.Goals as goal

pub returns-in-First : goal.returns-in-First
returns-in-First c = λ k w laid.
    let program = program_of c.args.setting.now.parts.now in
    let limits = c.args.setting.now.limits in
    let m0 = c.args.machine.now in
    let s = state_at k m0 in
    let fs = frames_of m0.now.frames in
    let env = m0.now.locals in
    let W = standing limits m0 w in
    let P : Run KeptWorld Progress → Type 0 = λ r. Advances limits c.first_value_to_expression.result c.first_value_to_expression.new.machine w (r) in
    subst P (sym (ap (λ f. give_step program (frame_of f ∷ fs) (value_of c.args.value) s W) c.in-First.is)) (c.first_value_to_expression.ensures k w laid)

pub returns-in-Second : goal.returns-in-Second
returns-in-Second c = λ k w laid.
    let program = program_of c.args.setting.now.parts.now in
    let limits = c.args.setting.now.limits in
    let m0 = c.args.machine.now in
    let s = state_at k m0 in
    let fs = frames_of m0.now.frames in
    let env = m0.now.locals in
    let W = standing limits m0 w in
    let m1 : CodeMachine = record m0 { heap = c.second_value_to_expression.new.heap } in
    let P : Run KeptWorld Progress → Type 0 = λ r. Leads limits c.second_value_to_expression.result m1 w (r) in
    let f = function_of m0.now.function.now in
    let calls = calls_within kept program m0.now.calls in
    c.proceed.ensures limits m1 w _
    (subst P (sym (ap (λ f. give_step program (frame_of f ∷ fs) (value_of c.args.value) s W) c.in-Second.is))
    (stays program limits c.second_value_to_expression.result m1 s w W (second_step program f calls (expr_of c.in-Second.e.now) (value_of c.in-Second.first) (value_of c.args.value) fs env W) fs env (record { acts = refl; input = refl }) (λ control. refl)
    (c.second_value_to_expression.ensures program f calls fs env W laid refl refl)))

pub returns-in-Pointer : goal.returns-in-Pointer
returns-in-Pointer c = λ k w laid.
    let program = program_of c.args.setting.now.parts.now in
    let limits = c.args.setting.now.limits in
    let m0 = c.args.machine.now in
    let s = state_at k m0 in
    let fs = frames_of m0.now.frames in
    let env = m0.now.locals in
    let W = standing limits m0 w in
    let m1 : CodeMachine = record m0 { now = record m0.now { frames = c.pointer_to_place.new.frames } } in
    let P : Run KeptWorld Progress → Type 0 = λ r. Leads limits c.pointer_to_place.result m1 w (r) in
    let to = pointer_step program (place_of c.in-Pointer.place.now) (value_of c.args.value) fs env in
    let new = frames_of c.pointer_to_place.new.frames in
    c.proceed-in-Pointer.ensures limits m1 w _
    (subst P (sym (ap (λ f. give_step program (frame_of f ∷ fs) (value_of c.args.value) s W) c.in-Pointer.is))
    (stays program limits c.pointer_to_place.result m1 s w W (Go to W) new env (record { acts = refl; input = refl }) (λ control. refl)
    (comes_doing c.pointer_to_place.result to new env W (Go to W) refl
    (if_ok_map c.pointer_to_place.result _ _ (λ x h. sym (h program env)) c.pointer_to_place.ensures.points)
    c.pointer_to_place.ensures.memory)))

pub returns-in-Index : goal.returns-in-Index
returns-in-Index c = λ k w laid.
    let program = program_of c.args.setting.now.parts.now in
    let limits = c.args.setting.now.limits in
    let m0 = c.args.machine.now in
    let s = state_at k m0 in
    let fs = frames_of m0.now.frames in
    let env = m0.now.locals in
    let W = standing limits m0 w in
    ap (λ f. (give_step program (frame_of f ∷ fs) (value_of c.args.value) s W)) c.in-Index.is
    ∙ ap (λ d. (staying program s (Go d W))) (sym (c.index_to_place.ensures program fs env))

pub returns-in-Inside : goal.returns-in-Inside
returns-in-Inside c = λ k w laid.
    let program = program_of c.args.setting.now.parts.now in
    let limits = c.args.setting.now.limits in
    let m0 = c.args.machine.now in
    let s = state_at k m0 in
    let fs = frames_of m0.now.frames in
    let env = m0.now.locals in
    let W = standing limits m0 w in
    let P : Run KeptWorld Progress → Type 0 = λ r. Leads limits c.value_to_inside_frame.result c.value_to_inside_frame.new.machine w (r) in
    c.proceed-in-Inside.ensures limits c.value_to_inside_frame.new.machine w _
    (subst P (sym (ap (λ f. give_step program (frame_of f ∷ fs) (value_of c.args.value) s W) c.in-Inside.is)) (c.value_to_inside_frame.ensures k w))
