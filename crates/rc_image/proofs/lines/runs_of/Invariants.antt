use Rattle.std.proofs.Common.{◌≡◌, ◌+◌, ◌++◌, ◌≤◌, length}
use Rattle.rc_image.specs.Spelling.{runs, runs_from}
use Rattle.rc_image.proofs.lines.runs_of.Given as goal

abbrev pub invariant-loop-rest : goal.invariant-loop-rest
invariant-loop-rest l = (l.runs.items ++ runs_from l.run.count l.run.line l.rest ≡ runs l.lines) × (l.run.count + length l.rest ≤ length l.lines)

abbrev pub decreases-loop-rest : goal.decreases-loop-rest
decreases-loop-rest l = length l.rest
