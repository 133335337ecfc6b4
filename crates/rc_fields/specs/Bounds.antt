-- How large the digits after the first can be.
use Rattle.std.specs.Prelude.{ℕ, zero, suc, ◌*◌}

-- one past the greatest number of so many digits and one more, of which the last is below 16
abbrev pub tail_bound : ℕ → ℕ
tail_bound zero = 16
tail_bound (suc more) = 128 * tail_bound more
