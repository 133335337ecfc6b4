use Rattle.std.proofs.Common.{◌<◌, ℕ, length}
use Rattle.rc_code.specs.Running.{reading_of, function_at}
use Rattle.rc_sealed.specs.Pinned.{Pinned}
use Rattle.rc_seal.proofs.pinned.pin_fault.Given as goal

abbrev pub invariant-loop-at : goal.invariant-loop-at
invariant-loop-at l = (g at : ℕ) → g < l.at → at < length (function_at (reading_of l.parts) g).code → Pinned (reading_of l.parts) g at
