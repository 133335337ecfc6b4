use Rattle.std.proofs.Common.{refl, sym, ap, subst}
use Rattle.rc_core.specs.Runs.{Run, Go}
use Rattle.rc_core.specs.Shapes.{function_of, program_of, stmt_of, path_of}
use Rattle.rc_slow.specs.declared.machine.Machine.{Machine as CodeMachine}
use Rattle.rc_slow.specs.Advancing.{Advances, Leads, standing, state_at}
use Rattle.rc_frames.specs.Codes.{frames_of}
use Rattle.rc_nodes.specs.Controls.{control_of}
use Rattle.rc_memory.specs.KeptWorld.{KeptWorld}
use Rattle.rc_nodes.specs.Stepping.{execute, along_step}
use Rattle.rc_slow.specs.Whole.{Progress, control_step}
use Rattle.rc_slow.proofs.Advances.{stays}
use Rattle.rc_nodes.proofs.Results.{comes_doing, if_ok_map}
use Rattle.rc_slow.proofs.machine.step.Goals as goal

pub returns-in-Execute : goal.returns-in-Execute
returns-in-Execute c = λ k w laid.
    let program = program_of c.args.setting.now.parts.now in
    let limits = c.args.setting.now.limits in
    let m0 = c.args.machine.now in
    let s = state_at k m0 in
    let fs = frames_of m0.now.frames in
    let env = m0.now.locals in
    let W = standing limits m0 w in
    let m1 : CodeMachine = record m0 { now = record m0.now { frames = c.begin_statement.new.frames; locals = c.begin_statement.new.locals } } in
    let P : Run KeptWorld Progress → Type 0 = λ r. Leads limits c.begin_statement.result m1 w (r) in
    let to = execute program (function_of m0.now.function.now) (stmt_of c.in-Execute.s.now) fs env W in
    let new = frames_of c.begin_statement.new.frames in
    let locals = c.begin_statement.new.locals in
    c.proceed.ensures limits m1 w _
    (subst P (sym (ap (λ x. control_step program (control_of x) s W) c.in-Execute.is))
    (stays program limits c.begin_statement.result m1 s w W (Go to W) new locals (record { acts = refl; input = refl })
    (λ control. refl)
    (comes_doing c.begin_statement.result to new locals W (Go to W) refl
    (if_ok_map c.begin_statement.result _ _ (λ x h. h program W) c.begin_statement.ensures.executes)
    c.begin_statement.ensures.memory)))

pub returns-in-GoAlong : goal.returns-in-GoAlong
returns-in-GoAlong c = λ k w laid.
    let program = program_of c.args.setting.now.parts.now in
    let limits = c.args.setting.now.limits in
    let m0 = c.args.machine.now in
    let s = state_at k m0 in
    let fs = frames_of m0.now.frames in
    let env = m0.now.locals in
    let W = standing limits m0 w in
    let m1 : CodeMachine = record m0 { now = record m0.now { frames = c.step_inward.new.frames } } in
    let P : Run KeptWorld Progress → Type 0 = λ r. Leads limits c.step_inward.result m1 w (r) in
    let to = along_step program c.in-GoAlong.target (path_of c.in-GoAlong.path.now) fs env in
    let new = frames_of c.step_inward.new.frames in
    c.proceed-in-GoAlong.ensures limits m1 w _
    (subst P (sym (ap (λ x. control_step program (control_of x) s W) c.in-GoAlong.is))
    (stays program limits c.step_inward.result m1 s w W (Go to W) new env (record { acts = refl; input = refl }) (λ control. refl)
    (comes_doing c.step_inward.result to new env W (Go to W) refl
    (if_ok_map c.step_inward.result _ _ (λ x h. sym h) (c.step_inward.ensures.goes program env laid))
    c.step_inward.ensures.memory)))

pub returns-in-Aims : goal.returns-in-Aims
returns-in-Aims c = λ k w laid.
    let program = program_of c.args.setting.now.parts.now in
    let limits = c.args.setting.now.limits in
    let m0 = c.args.machine.now in
    let s = state_at k m0 in
    let fs = frames_of m0.now.frames in
    let env = m0.now.locals in
    let W = standing limits m0 w in
    let P : Run KeptWorld Progress → Type 0 = λ r. Advances limits c.place_to_call.result c.place_to_call.new.machine w (r) in
    subst P (sym (ap (λ x. control_step program (control_of x) s W) c.in-Aims.is)) (c.place_to_call.ensures k w laid)
