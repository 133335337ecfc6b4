-- When bits stand for facts over so many variables.
use Rattle.std.specs.Prelude.{◌≡◌, ℕ, ◌+◌, ◌*◌, ◌<◌, ◌≤◌, Bool, false, ◌==◌, IsTrue, Option, MatchOption}
use Rattle.std.specs.Int.{bit_at}
use Rattle.rc_facts.specs.declared.fact.Fact.{Fact}
use Rattle.rc_facts.specs.Facts.{is_over}
use Rattle.rc_claims.specs.Bits.{bit_count, bit_number}
use Rattle.rc_fact_bits.specs.declared.numbers.Place.{Place}

-- the bit of that number says whether its fact is one of these, and behind the last fact it is 0
pub record Stands (n : ℕ) (facts : Fact → Bool) (number : ℕ) (bit : Bool) : Type 0 where
  pub told : (fact : Fact) → IsTrue (is_over n fact) → bit_number n fact ≡ number → bit ≡ facts fact
  pub unused : bit_count n ≤ number → bit ≡ false

-- the number of a bit by where it stands
abbrev pub number_at : ℕ → Place → ℕ
number_at n p = p.row * n + p.column

-- it is the fact over n variables of that number
pub record HasNumber (n number : ℕ) (fact : Fact) : Type 0 where
  pub over : IsTrue (is_over n fact)
  pub numbered : bit_number n fact ≡ number

-- .. if there is one
abbrev pub FactAt : (n number : ℕ) → Option Fact → Type 0
FactAt n number fact = MatchOption fact (bit_count n ≤ number) (HasNumber n number)

-- the bits of a byte, from that number on, the first in the lowest
abbrev pub ByteStands : (n : ℕ) → (Fact → Bool) → (start byte : ℕ) → Type 0
ByteStands n facts start byte = (j : ℕ) → j < 8 → Stands n facts (start + j) (bit_at byte j == 1)
