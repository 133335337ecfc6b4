use Rattle.std.proofs.Common.{sym, ap, subst}
use Rattle.rc_core.specs.Runs.{Run}
use Rattle.rc_core.specs.Shapes.{stmt_of}
use Rattle.rc_frames.specs.Codes.{frames_of, stage_of}
use Rattle.rc_nodes.specs.Coming.{Comes, with_turns}
use Rattle.rc_memory.specs.KeptWorld.{KeptWorld}
use Rattle.rc_nodes.specs.Stepping.{Doing, given_step}
use Rattle.rc_values.specs.Values.{value_of}
use Rattle.rc_nodes.proofs.storing.value_to_statement.Goals as goal

pub returns-in-Value : goal.returns-in-Value
returns-in-Value c = λ program w at_heap waits.
    let P : Run KeptWorld Doing → Type 0 = Comes c.value_to_waiting_statement.result (frames_of c.args.frames.now) c.value_to_waiting_statement.new.locals c.value_to_waiting_statement.new.heap (with_turns c.args.turns.now w) in
    subst P (sym (ap (λ stage. given_step program (stmt_of c.args.given.now.statement.now) (stage_of (stmt_of c.args.given.now.statement.now) stage) (value_of c.args.given.now.value) (frames_of c.args.frames.now) c.args.locals.now (with_turns c.args.turns.now w)) c.in-Value.is))
    (c.value_to_waiting_statement.ensures program (with_turns c.args.turns.now w) at_heap waits)
