use Rattle.std.proofs.Common.{◌≡◌, ◌-◌, None}
use Rattle.rc_image.specs.Reading.{runs_at}
use Rattle.rc_fields.proofs.Loop.{with_front}
use Rattle.rc_image.proofs.lines.read_runs.Given as goal

abbrev pub invariant-loop-done : goal.invariant-loop-done
invariant-loop-done l = with_front l.lines.items (runs_at (l.runs - l.done) l.left l.before l.rest) ≡ runs_at l.runs l.count None l.bytes
