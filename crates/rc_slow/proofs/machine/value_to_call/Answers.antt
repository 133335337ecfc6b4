use Rattle.std.proofs.Common.{◌∙◌, sym, ap, subst}
use Rattle.rc_core.specs.Runs.{Run}
use Rattle.rc_core.specs.Shapes.{program_of}
use Rattle.rc_slow.specs.Advancing.{Advances, LeadsTo, standing, state_at}
use Rattle.rc_frames.specs.Codes.{frame_of, frames_of, CodeFrames}
use Rattle.rc_memory.specs.KeptWorld.{KeptWorld}
use Rattle.rc_values.specs.Values.{value_of}
use Rattle.rc_slow.specs.Whole.{Progress, give_step}
use Rattle.rc_slow.proofs.Advances.{give_any}
use Rattle.rc_slow.proofs.machine.value_to_call.Goals as goal

pub returns-in-None : goal.returns-in-None
returns-in-None c = λ k w laid.
    let program = program_of c.args.setting.now.parts.now in
    let limits = c.args.setting.now.limits in
    let m0 = c.args.machine.now in
    let P : CodeFrames → Type 0 = λ fs. LeadsTo limits c.leave_call.result c.leave_call.new.machine w (give_step program (frames_of fs) (value_of c.args.value) (state_at k m0) (standing limits m0 w)) in
    subst P (sym c.in-None.ensures) (c.leave_call.ensures program limits k w)

pub returns-in-Some : goal.returns-in-Some
returns-in-Some c = λ k w laid.
    let program = program_of c.args.setting.now.parts.now in
    let limits = c.args.setting.now.limits in
    let m0 = c.args.machine.now in
    let s = state_at k m0 in
    let W = standing limits m0 w in
    let fs = frames_of c.pop.new.self in
    let P : Run KeptWorld Progress → Type 0 = λ r. Advances limits c.value_to_frame.result c.value_to_frame.new.machine w (r) in
    subst P
    (sym (give_any program limits (frame_of c.in-Some.frame) fs (value_of c.args.value) s fs W)
    ∙ ap (λ l. give_step program (frames_of l) (value_of c.args.value) s W) (sym c.in-Some.ensures))
    (c.value_to_frame.ensures k w laid)
