-- Facts as bits: over n variables those of In(0, 0), In(0, 1) up to In(n - 1, n - 1), then of Up likewise, then of Trad(0) up to
-- Trad(n - 1), then of NonNull likewise. Eight stand in a byte, the first in the lowest bit.
use Rattle.std.specs.Prelude.{◌≡◌, ℕ, ◌+◌, ◌*◌, ◌/◌, ◌%◌, ◌≤◌, Bool, false, ◌&&◌, ◌==◌, List, length, get_or}
use Rattle.std.specs.Int.{bit_at}
use Rattle.rc_facts.specs.declared.fact.Fact.{Fact}
use Rattle.rc_facts.specs.declared.fact.Fact.TheVariants.{In, Up, Trad, NonNull}
use Rattle.rc_facts.specs.Facts.{is_over}

-- behind the last byte there are zeros
unfoldable pub bit_in : List ℕ → ℕ → Bool
bit_in bytes number = bit_at (get_or bytes (number / 8) 0) (number % 8) == 1

abbrev pub bit_number : (n : ℕ) → Fact → ℕ
bit_number n (In x y) = x * n + y
bit_number n (Up x y) = n * n + (x * n + y)
bit_number n (Trad x) = 2 * (n * n) + x
bit_number n (NonNull x) = 2 * (n * n) + (n + x)

-- the bits have a fact on the variables
abbrev pub claims : (n : ℕ) → List ℕ → Fact → Bool
claims n bytes fact = is_over n fact && bit_in bytes (bit_number n fact)

abbrev pub bit_count : ℕ → ℕ
bit_count n = 2 * (n * n) + 2 * n

abbrev pub byte_count : ℕ → ℕ
byte_count n = (bit_count n + 7) / 8

-- as many bytes as the bits take, and the unused bits of the last one are 0
pub record BitsFit (n : ℕ) (bytes : List ℕ) : Type 0 where
  pub long : length bytes ≡ byte_count n
  pub unused : (number : ℕ) → bit_count n ≤ number → bit_in bytes number ≡ false
