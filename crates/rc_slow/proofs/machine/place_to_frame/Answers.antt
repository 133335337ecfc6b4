use Rattle.std.proofs.Common.{◌∷◌, refl, sym, ap, subst}
use Rattle.rc_core.specs.Runs.{Run, bind}
use Rattle.rc_core.specs.Shapes.{program_of}
use Rattle.rc_slow.specs.Advancing.{Leads, standing, state_at}
use Rattle.rc_frames.specs.Codes.{frame_of, frames_of}
use Rattle.rc_memory.specs.KeptWorld.{KeptWorld, kept}
use Rattle.rc_nodes.specs.Stepping.{giving_next}
use Rattle.rc_slow.specs.Whole.{Progress, aim_step}
use Rattle.rc_slow.proofs.Advances.{stays}
use Rattle.rc_slow.proofs.machine.place_to_frame.Goals as goal

pub returns-in-Load : goal.returns-in-Load
returns-in-Load c = λ k w laid.
    let program = program_of c.args.setting.now.parts.now in
    let limits = c.args.setting.now.limits in
    let m0 = c.args.machine.now in
    let fs = frames_of m0.now.frames in
    let W = standing limits m0 w in
    let P : Run KeptWorld Progress → Type 0 = λ r. Leads limits c.load.result m0 w (r) in
    subst P (sym (ap (λ f. aim_step program (frame_of f ∷ fs) c.args.target (state_at k m0) W) c.in-Load.is))
    (stays program limits c.load.result m0 (state_at k m0) w W
    (bind (kept.load c.in-Load.line c.args.target W) (giving_next program fs m0.now.locals))
    fs m0.now.locals (record { acts = refl; input = refl }) (λ control. refl)
    (c.load.ensures program fs m0.now.locals W refl))
