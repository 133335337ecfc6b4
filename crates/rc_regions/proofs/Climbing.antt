-- Climbing by links that double.
use Rattle.std.proofs.Common.{◌≡◌, ◌≢◌, ◌<◌, ◌≤◌, ◌+◌, ◌*◌, ◌/◌, ◌%◌, ◌^◌, ℕ, zero, suc, List, count_ones, refl, sym, ap, ◌∙◌, arith, add-one, ◌⊎◌, inl, inr}
use Rattle.std.proofs.lemmas.Nat.{ones_cat, ones_le_self, zero_from_ones}
use Rattle.std.proofs.Math.Nat.{lt_of_not-le, two-pow-succ}
use Rattle.std.proofs.Math.Pow.{pow_mono, suc_ones}
use Rattle.rc_regions.specs.declared.record.Slot.{Slot}
use Rattle.rc_regions.specs.declared.record.Slot.TheVariants.{Root}
use Rattle.rc_regions.specs.Slots.{slot_at}
use Rattle.rc_regions.specs.Ascents.{parent_or_self, ancestor}

ones-half : (n : ℕ) → count_ones n ≡ count_ones (n / 2) + count_ones (n % 2)
ones-half n = let split : n ≡ n / 2 * 2 ^ 1 + n % 2 = omega arith in let low : n % 2 < 2 ^ 1 = omega arith in ap count_ones split ∙ ones_cat 1 (n / 2) (n % 2) low

ones-zero : count_ones 0 ≡ 0
ones-zero = let most = ones_le_self 0 in omega (arith, most)

ones-one : count_ones 1 ≡ 1
ones-one = let most = ones_le_self 1 in let some : count_ones 1 ≢ 0 = λ none. (let e = zero_from_ones 1 none in absurd (omega (arith, e))) in omega (arith, most, some)

pub ones-even : (n : ℕ) → n % 2 ≡ 0 → count_ones n ≡ count_ones (n / 2)
ones-even n even = omega (arith, ones-half n, ap count_ones even, ones-zero)

pub ones-odd : (n : ℕ) → n % 2 ≡ 1 → count_ones n ≡ count_ones (n / 2) + 1
ones-odd n odd = omega (arith, ones-half n, ap count_ones odd, ones-one)

pub power-suc : (k : ℕ) → 2 ^ (k + 1) ≡ 2 ^ k + 2 ^ k
power-suc k = ap (λ e. 2 ^ e) (add-one k) ∙ two-pow-succ k

twice_half : (half power : ℕ) → (half + half) * power ≡ half * (power + power)
twice_half half power = omega arith

one_more : (half power : ℕ) → (half + half + 1) * power ≡ power + half * (power + power)
one_more half power = omega arith

-- an even number of strides is half as many of twice the length
pub even_way : (n k : ℕ) → n % 2 ≡ 0 → n * 2 ^ k ≡ n / 2 * 2 ^ (k + 1)
even_way n k even = let halves : n ≡ n / 2 + n / 2 = omega arith in ap (λ m. m * 2 ^ k) halves ∙ twice_half (n / 2) (2 ^ k) ∙ ap (λ q. n / 2 * q) (sym (power-suc k))

-- and an odd number is one stride more
pub odd_way : (n k : ℕ) → n % 2 ≡ 1 → n * 2 ^ k ≡ 2 ^ k + n / 2 * 2 ^ (k + 1)
odd_way n k odd = let halves : n ≡ n / 2 + n / 2 + 1 = omega arith in ap (λ m. m * 2 ^ k) halves ∙ one_more (n / 2) (2 ^ k) ∙ ap (λ q. 2 ^ k + n / 2 * q) (sym (power-suc k))

pub one_times : (n power : ℕ) → 0 < n → power ≤ n * power
one_times zero power some = omega (arith, some)
one_times (suc n) power some = omega arith

pub below_power : (n k most : ℕ) → 0 < n → n * 2 ^ k < 2 ^ most → k < most
below_power n k most some low = lt_of_not-le (λ more. let grows : 2 ^ most ≤ 2 ^ k = pow_mono more in let least = one_times n (2 ^ k) some in absurd (omega (arith, low, grows, least)))

pub ancestor-root : (slots : List Slot) (n : ℕ) → slot_at slots 0 ≡ Root → ancestor slots n 0 ≡ 0
ancestor-root slots zero root = refl
ancestor-root slots (suc n) root = ap (λ x. ancestor slots n (parent_or_self x 0)) root ∙ ancestor-root slots n root

pub power-some : (k : ℕ) → 0 < 2 ^ k
power-some k = omega (arith, suc_ones k)

pub split_at : (a b : ℕ) → (a < b) ⊎ (b ≤ a)
split_at a zero = inr (omega arith)
split_at zero (suc b) = inl (omega arith)
split_at (suc a) (suc b) = elim (split_at a b) [ inl less ↦ inl (omega (arith, less)) | inr more ↦ inr (omega (arith, more)) ]
