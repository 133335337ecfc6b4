-- Bits of bytes.
use Rattle.std.proofs.Common.{◌≡◌, ◌∙◌, ℕ, ◌/◌, ◌%◌, ◌^◌, false, ◌==◌, List, get_or, sym, ap}
use Rattle.std.specs.Int.{bit_at}
use Rattle.std.specs.Int.Bits.{bit_and}
use Rattle.std.proofs.lemmas.Nat.Bits.{shr_and_one, bit_at-zero}
use Rattle.rc_claims.specs.Bits.{bit_in}

pub bit_is : (bytes : List ℕ) (number byte : ℕ) → get_or bytes (number / 8) 0 ≡ byte → (bit_and (byte / 2 ^ (number % 8)) 1 == 1) ≡ bit_in bytes number
unfolding bit_in
bit_is bytes number byte e = ap (λ b. b == 1) (shr_and_one byte (number % 8)) ∙ ap (λ n. bit_at n (number % 8) == 1) (sym e)

pub no_bit_is : (bytes : List ℕ) (number : ℕ) → get_or bytes (number / 8) 0 ≡ 0 → bit_in bytes number ≡ false
unfolding bit_in
no_bit_is bytes number e = ap (λ n. bit_at n (number % 8) == 1) e ∙ ap (λ b. b == 1) (bit_at-zero (number % 8))
