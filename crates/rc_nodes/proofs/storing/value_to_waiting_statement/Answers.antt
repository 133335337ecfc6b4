use Rattle.std.proofs.Common.{sym, ap, subst}
use Rattle.rc_core.specs.Runs.{Run}
use Rattle.rc_core.specs.Shapes.{stmt_of}
use Rattle.rc_frames.specs.Codes.{frames_of}
use Rattle.rc_nodes.specs.Coming.{Comes}
use Rattle.rc_memory.specs.KeptWorld.{KeptWorld}
use Rattle.rc_nodes.specs.Stepping.{Doing, value_step}
use Rattle.rc_values.specs.Values.{value_of}
use Rattle.rc_nodes.proofs.storing.value_to_waiting_statement.Goals as goal

pub returns-in-Delete : goal.returns-in-Delete
returns-in-Delete c = λ program w at_heap waits.
    let P : Run KeptWorld Doing → Type 0 = Comes c.delete.result (frames_of c.args.frames.now) c.args.locals.now c.delete.new.heap w in
    subst P (sym (ap (λ s. value_step program (stmt_of s) (value_of c.args.value) (frames_of c.args.frames.now) c.args.locals.now w) c.in-Delete.is)) (c.delete.ensures program w at_heap waits)
