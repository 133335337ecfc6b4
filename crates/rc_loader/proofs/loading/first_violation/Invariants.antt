use Rattle.std.proofs.Common.{ℕ, ◌<◌, true}
use Rattle.rc_code.specs.Running.{reading_of, function_at}
use Rattle.rc_code.specs.Soundness.{FunctionIsSound}
use Rattle.rc_loader.proofs.loading.first_violation.Given as goal

abbrev pub invariant-loop-number : goal.invariant-loop-number
invariant-loop-number l = (f : ℕ) → f < l.number → FunctionIsSound true (reading_of l.parts) (function_at (reading_of l.parts) f)
