use Rattle.std.proofs.Common.{◌≡◌, ℕ, take}
use Rattle.rc_base.specs.BitSets.{marks}
use Rattle.rc_pinning.specs.Tables.{has_number}
use Rattle.rc_pinning.proofs.pins.numbers_of_pins.Given as goal

abbrev pub invariant-loop-at : goal.invariant-loop-at
invariant-loop-at l = (n : ℕ) → marks l.set n ≡ has_number l.numbers (take l.at l.pins) n
