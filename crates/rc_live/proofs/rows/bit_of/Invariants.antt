use Rattle.std.proofs.Common.{◌≡◌, ◌<◌, ℕ, slice_get, Some}
use Rattle.rc_live.proofs.rows.bit_of.Given as goal

abbrev pub invariant-loop-bit : goal.invariant-loop-bit
invariant-loop-bit l = (j : ℕ) → j < l.bit → slice_get l.names j ≡ Some l.local → ⊥
