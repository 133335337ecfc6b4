use Rattle.std.proofs.Common.{◌∙◌, ap, sym, ℕ}
use Rattle.rc_core.specs.Shapes.{expr_of, stmt_of}
use Rattle.std.specs.Prelude.{option_map}
use Rattle.rc_core.specs.declared.stmt.Stmt.TheVariants.{For}
use Rattle.rc_frames.specs.Codes.{frames_of}
use Rattle.rc_nodes.specs.Coming.{with_turns}
use Rattle.rc_nodes.specs.Stepping.{Doing, head_step, third_step, turning_to}
use Rattle.rc_nodes.proofs.Results.{if_ok_map, comes_doing}
use Rattle.rc_nodes.proofs.statements.done_to_third.Goals as goal

pub returns-in_ok-rounds-in-For : goal.returns-in_ok-rounds-in-For
returns-in_ok-rounds-in-For c = λ program env w.
    let fs = frames_of c.args.frames.now in
    let next : ℕ → Doing = λ m. head_step program (stmt_of c.args.s.now) m (option_map expr_of c.in-For.test) (stmt_of c.deref.result.now) fs env in
    comes_doing c.begin_round.result (next c.in_ok-rounds-in-For.rounds) (frames_of c.begin_round.new.frames) env (with_turns c.take_turn.new.turns w) _
    (ap (λ s. third_step program (stmt_of s) c.args.rounds fs env (with_turns c.args.turns.now w)) c.in-For.is
    ∙ ap (λ b. turning_to program c.args.rounds (λ m. head_step program (stmt_of (For c.in-For.line c.in-For.first c.in-For.test c.in-For.third c.in-For.body)) m (option_map expr_of c.in-For.test) (stmt_of b) fs env) (with_turns c.args.turns.now w)) (sym c.deref.ensures)
    ∙ ap (λ s. turning_to program c.args.rounds (λ m. head_step program (stmt_of s) m (option_map expr_of c.in-For.test) (stmt_of c.deref.result.now) fs env) (with_turns c.args.turns.now w)) (sym c.in-For.is)
    ∙ c.in_ok-rounds-in-For.ensures program next w)
    (if_ok_map c.begin_round.result _ _ (λ x h. h program env) c.begin_round.ensures.heads)
    c.begin_round.ensures.memory
