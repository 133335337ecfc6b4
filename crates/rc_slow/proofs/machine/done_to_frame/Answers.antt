use Rattle.std.proofs.Common.{◌∷◌, refl, sym, ap, subst}
use Rattle.rc_core.specs.Runs.{Run}
use Rattle.rc_core.specs.Shapes.{stmt_of}
use Rattle.rc_slow.specs.declared.machine.Machine.{Machine as CodeMachine}
use Rattle.rc_slow.specs.Advancing.{Leads, standing, state_at}
use Rattle.rc_frames.specs.Codes.{frame_of, frames_of, stage_of}
use Rattle.rc_nodes.specs.Coming.{with_turns}
use Rattle.rc_memory.specs.KeptWorld.{KeptWorld}
use Rattle.rc_nodes.specs.Stepping.{go_step}
use Rattle.rc_slow.specs.Whole.{Progress, goes_step}
use Rattle.rc_slow.proofs.Advances.{stays}
use Rattle.rc_slow.proofs.machine.done_to_frame.Goals as goal

pub returns-in-Inside : goal.returns-in-Inside
returns-in-Inside c = λ program limits k w.
    let m0 = c.args.machine.now in
    let fs = frames_of m0.now.frames in
    let W = standing limits m0 w in
    let m1 : CodeMachine = record m0 { now = record m0.now { frames = c.done_to_statement.new.frames }; turns = c.done_to_statement.new.turns } in
    let P : Run KeptWorld Progress → Type 0 = λ r. Leads limits c.done_to_statement.result m1 w (r) in
    subst P (sym (ap (λ f. goes_step program (frame_of f ∷ fs) (state_at k m0) W) c.in-Inside.is))
    (stays program limits c.done_to_statement.result m1 (state_at k m0) w (with_turns c.done_to_statement.new.turns W)
    (go_step program (stmt_of c.in-Inside.s.now) (stage_of (stmt_of c.in-Inside.s.now) c.in-Inside.stage) fs m0.now.locals W)
    (frames_of c.done_to_statement.new.frames) m0.now.locals (record { acts = refl; input = refl }) (λ control. refl)
    (c.done_to_statement.ensures program m0.now.locals W))
