use Rattle.std.proofs.Common.{sym, subst}
use Rattle.rc_slow.specs.Advancing.{LeadsTo, standing, state_at}
use Rattle.rc_frames.specs.Codes.{frames_of, CodeFrames}
use Rattle.rc_slow.specs.Whole.{breaks_step}
use Rattle.rc_slow.proofs.machine.broke_to_call.Goals as goal

pub returns-in-None : goal.returns-in-None
returns-in-None c = λ program limits k w.
    let m0 = c.args.machine.now in
    let P : CodeFrames → Type 0 = λ fs. LeadsTo limits c.leave_without_value.result c.leave_without_value.new.machine w (breaks_step program (frames_of fs) (state_at k m0) (standing limits m0 w)) in
    subst P (sym c.in-None.ensures) (c.leave_without_value.ensures program limits k w)
