use Rattle.std.proofs.Common.{◌∙◌, sym, ap, subst}
use Rattle.rc_core.specs.Runs.{Run}
use Rattle.rc_slow.specs.Advancing.{Leads, LeadsTo, standing, state_at}
use Rattle.rc_frames.specs.Codes.{frame_of, frames_of, CodeFrames}
use Rattle.rc_memory.specs.KeptWorld.{KeptWorld}
use Rattle.rc_slow.specs.Whole.{Progress, goes_step}
use Rattle.rc_slow.proofs.Advances.{goes_any}
use Rattle.rc_slow.proofs.machine.done_to_call.Goals as goal

pub returns-in-None : goal.returns-in-None
returns-in-None c = λ program limits k w.
    let m0 = c.args.machine.now in
    let P : CodeFrames → Type 0 = λ fs. LeadsTo limits c.leave_without_value.result c.leave_without_value.new.machine w (goes_step program (frames_of fs) (state_at k m0) (standing limits m0 w)) in
    subst P (sym c.in-None.ensures) (c.leave_without_value.ensures program limits k w)

pub returns-in-Some : goal.returns-in-Some
returns-in-Some c = λ program limits k w.
    let m0 = c.args.machine.now in
    let s = state_at k m0 in
    let W = standing limits m0 w in
    let fs = frames_of c.pop.new.self in
    let P : Run KeptWorld Progress → Type 0 = λ r. Leads limits c.done_to_frame.result c.done_to_frame.new.machine w (r) in
    c.proceed.ensures limits c.done_to_frame.new.machine w _
    (subst P
    (sym (goes_any program limits (frame_of c.in-Some.frame) fs s fs W)
    ∙ ap (λ l. goes_step program (frames_of l) s W) (sym c.in-Some.ensures))
    (c.done_to_frame.ensures program limits k w))
