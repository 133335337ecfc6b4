use Rattle.std.proofs.Common.{ap}
use Rattle.rc_core.specs.Shapes.{stmt_of}
use Rattle.rc_frames.specs.Codes.{frames_of, rest_behind, stage_of}
use Rattle.rc_nodes.specs.Coming.{with_turns}
use Rattle.rc_nodes.specs.Stepping.{go_step, within_step}
use Rattle.rc_nodes.proofs.Results.{if_ok_map, comes_doing}
use Rattle.rc_nodes.proofs.statements.done_to_statement.Goals as goal

pub returns-in-Within : goal.returns-in-Within
returns-in-Within c = λ program env w.
    let fs = frames_of c.args.frames.now in
    comes_doing c.next_in_block.result (within_step program (stmt_of c.args.s.now) (rest_behind c.in-Within.begun (stmt_of c.args.s.now)) fs env) (frames_of c.next_in_block.new.frames) env (with_turns c.args.turns.now w) _
    (ap (λ t. go_step program (stmt_of c.args.s.now) (stage_of (stmt_of c.args.s.now) t) fs env (with_turns c.args.turns.now w)) c.in-Within.is)
    (if_ok_map c.next_in_block.result _ _ (λ x h. h program env) c.next_in_block.ensures.goes)
    c.next_in_block.ensures.memory
