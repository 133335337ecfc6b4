use Rattle.std.proofs.Common.{refl}
use Rattle.rc_core.specs.Shapes.{program_of, stmt_of}
use Rattle.rc_slow.specs.declared.machine.Machine.{Machine as CodeMachine}
use Rattle.rc_slow.specs.Advancing.{standing, state_at}
use Rattle.rc_frames.specs.Codes.{frames_of, stage_of}
use Rattle.rc_nodes.specs.Coming.{with_turns}
use Rattle.rc_nodes.specs.Stepping.{given_step}
use Rattle.rc_values.specs.Values.{value_of}
use Rattle.rc_slow.proofs.Advances.{stays}
use Rattle.rc_slow.proofs.machine.value_to_inside_frame.Goals as goal

pub returns : goal.returns
returns c = λ k w.
    let program = program_of c.args.setting.now.parts.now in
    let limits = c.args.setting.now.limits in
    let m0 = c.args.machine.now in
    let s = state_at k m0 in
    let fs = frames_of m0.now.frames in
    let env = m0.now.locals in
    let W = standing limits m0 w in
    let m1 : CodeMachine = record m0 { now = record m0.now { frames = c.value_to_statement.new.frames; locals = c.value_to_statement.new.locals }; heap = c.value_to_statement.new.heap; turns = c.value_to_statement.new.turns } in
    stays program limits c.value_to_statement.result m1 s w (with_turns c.value_to_statement.new.turns W)
    (given_step program (stmt_of c.args.s.now) (stage_of (stmt_of c.args.s.now) c.args.stage) (value_of c.args.value) fs env W)
    (frames_of c.value_to_statement.new.frames) c.value_to_statement.new.locals (record { acts = refl; input = refl }) (λ control. refl)
    (c.value_to_statement.ensures program W refl refl)
