use Rattle.std.proofs.Common.{◌∙◌, ap, sym}
use Rattle.rc_core.specs.Shapes.{expr_of, stmt_of}
use Rattle.rc_core.specs.Runs.{Go}
use Rattle.std.specs.Prelude.{option_map}
use Rattle.rc_core.specs.declared.stmt.Stmt.TheVariants.{For}
use Rattle.rc_frames.specs.Codes.{frames_of}
use Rattle.rc_nodes.specs.Coming.{with_turns}
use Rattle.rc_nodes.specs.Stepping.{head_step, headed_step}
use Rattle.rc_nodes.proofs.Results.{if_ok_map, comes_doing}
use Rattle.rc_nodes.proofs.statements.done_to_first.Goals as goal

pub returns-in-For : goal.returns-in-For
returns-in-For c = λ program env w.
    let fs = frames_of c.args.frames.now in
    comes_doing c.begin_round.result (head_step program (stmt_of c.args.s.now) c.args.turns (option_map expr_of c.in-For.test) (stmt_of c.deref.result.now) fs env) (frames_of c.begin_round.new.frames) env (with_turns c.args.turns w) _
    (ap (λ s. headed_step program (stmt_of s) fs env (with_turns c.args.turns w)) c.in-For.is
    ∙ ap (λ b. Go (head_step program (stmt_of (For c.in-For.line c.in-For.first c.in-For.test c.in-For.third c.in-For.body)) c.args.turns (option_map expr_of c.in-For.test) (stmt_of b) fs env) (with_turns c.args.turns w)) (sym c.deref.ensures)
    ∙ ap (λ s. Go (head_step program (stmt_of s) c.args.turns (option_map expr_of c.in-For.test) (stmt_of c.deref.result.now) fs env) (with_turns c.args.turns w)) (sym c.in-For.is))
    (if_ok_map c.begin_round.result _ _ (λ x h. h program env) c.begin_round.ensures.heads)
    c.begin_round.ensures.memory
