use Rattle.std.proofs.Common.{◌≡◌, ◌++◌}
use Rattle.rc_task_text.proofs.Pieces.{calls_before}
use Rattle.rc_task_text.proofs.writing.append_calls.Given as goal

abbrev pub invariant-loop-task : goal.invariant-loop-task
invariant-loop-task l = l.lines ≡ l.fn.lines ++ calls_before l.choices l.task
