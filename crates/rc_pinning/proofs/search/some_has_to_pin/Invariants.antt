use Rattle.std.proofs.Common.{◌<◌, ℕ}
use Rattle.rc_code.specs.Running.{reading_of}
use Rattle.rc_sealed.specs.Pinned.{Pinned}
use Rattle.rc_pinning.proofs.search.some_has_to_pin.Given as goal

abbrev pub invariant-loop-at : goal.invariant-loop-at
invariant-loop-at l = (k : ℕ) → k < l.at → Pinned (reading_of l.parts) l.number k
