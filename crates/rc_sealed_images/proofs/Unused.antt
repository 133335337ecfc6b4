-- The bits of facts are read as they are spelled, and unused ones are 0.
use Rattle.std.proofs.Common.{◌≡◌, ℕ, zero, suc, ◌+◌, ◌-◌, ◌*◌, ◌/◌, ◌%◌, ◌^◌, ◌<◌, ◌≤◌, Bool, true, false, ◌||◌, not, nat_eq, ◌==◌, cond, ltb, List, ◌++◌, length, take, drop, get_or, Ok, Err, refl, sym, ap, subst, ◌∙◌, arith, inl, inr, ◌⊎◌, length-append}
use Rattle.std.specs.Int.{bit_at}
use Rattle.std.proofs.lemmas.Nat.{shr-shr}
use Rattle.std.proofs.lemmas.Nat.Bits.{bit_at-lt, bit_at-zero, bit_at_above, same_from_bits}
use Rattle.std.proofs.lemmas.Bool.{cases_lt, false≢true, ltb-false, le-ltb}
use Rattle.std.proofs.lemmas.List.{length-take-le, take-append-drop, get_or-drop, get_or_past, take_at, drop_at}
use Rattle.rc_fields.specs.Reading.{short, field, Read}
use Rattle.rc_fields.proofs.Codecs.{IsBytes, no_then, ok_is, Takes, Law, not_zero}
use Rattle.rc_claims.specs.Bits.{bit_in, bit_count, byte_count, BitsFit}
use Rattle.rc_claims.proofs.BitLaws.{no_bit_is}
use Rattle.rc_sealed_images.specs.Reading.{has_one, has_unused, bits_at}

neither : (a b : Bool) → (a || b) ≡ false → (a ≡ false) × (b ≡ false)
neither true b e = absurd cc
neither false b e = (refl, e)

none_is : (bits : List ℕ) (from count : ℕ) → has_one bits from count ≡ false → (number : ℕ) → from ≤ number → number < from + count → bit_in bits number ≡ false
unfolding has_one
none_is bits from zero e number least most = absurd (omega arith)
none_is bits from (suc count) e number least most =
    let both = neither (bit_in bits from) (has_one bits (suc from) count) e in
    elim (cases_lt from number) [
      | inl further ↦ none_is bits (suc from) count both.1 number (omega arith) (omega arith)
      | inr here ↦ (let same : from ≡ number = omega arith in subst (λ n. bit_in bits n ≡ false) same both.0)
    ]

pub none_has : (bits : List ℕ) (from count : ℕ) → ((number : ℕ) → from ≤ number → bit_in bits number ≡ false) → has_one bits from count ≡ false
unfolding has_one
none_has bits from zero none = refl
none_has bits from (suc count) none = rw (none from (omega arith), none_has bits (suc from) count (λ number least. none number (omega (arith, least)))) refl

-- there is no byte so far behind
behind : (n : ℕ) (bits : List ℕ) (number : ℕ) → length bits ≡ byte_count n → bit_count n + 8 ≤ number → bit_in bits number ≡ false
behind n bits number long far = no_bit_is bits number (get_or_past bits (number / 8) 0 (let le : length bits ≤ number / 8 = omega (arith, long, far) in le))

pub all_unused : (n : ℕ) (bits : List ℕ) → length bits ≡ byte_count n → has_unused n bits ≡ false → BitsFit n bits
all_unused n bits long none = record { long = long; unused = λ number least. by number least (cases_lt number (bit_count n + 8)) }
  where
    by : (number : ℕ) → bit_count n ≤ number → (number < bit_count n + 8) ⊎ (bit_count n + 8 ≤ number) → bit_in bits number ≡ false
    by number least (inl near) = none_is bits (bit_count n) 8 none number least near
    by number least (inr far) = behind n bits number long far

-- ---- the byte with the unused bits

bit_none : (bits : List ℕ) (number : ℕ) → bit_at (get_or bits (number / 8) 0) (number % 8) ≡ 0 → bit_in bits number ≡ false
unfolding bit_in
bit_none bits number e = ap (λ b. b == 1) e

none_bit : (bits : List ℕ) (number : ℕ) → bit_in bits number ≡ false → bit_at (get_or bits (number / 8) 0) (number % 8) ≡ 0
unfolding bit_in
none_bit bits number e = no_bit (bit_at (get_or bits (number / 8) 0) (number % 8)) (bit_at-lt (get_or bits (number / 8) 0) (number % 8)) e
  where
    no_bit : (b : ℕ) → b < 2 → (b == 1) ≡ false → b ≡ 0
    no_bit zero lt e = refl
    no_bit (suc zero) lt e = absurd cc
    no_bit (suc (suc b)) lt e = absurd (omega (arith, lt))

further_bit : (byte k i : ℕ) → bit_at byte (k + i) ≡ bit_at (byte / 2 ^ k) i
further_bit byte k i = ap (λ n. n % 2) (sym (shr-shr byte k i))

module _ (n used : ℕ) (bits : List ℕ) (is : used ≡ bit_count n) (long : length bits ≡ byte_count n) where
  past_end : (number : ℕ) → length bits ≤ number / 8 → bit_in bits number ≡ false
  past_end number le = no_bit_is bits number (get_or_past bits (number / 8) 0 le)

  pub none_unused : length bits ≤ used / 8 → has_unused n bits ≡ false
  none_unused le = none_has bits (bit_count n) 8 (λ number least. past_end number (let far : length bits ≤ number / 8 = omega (arith, le, least, is) in far))

  module _ (byte : ℕ) (small : byte < 256) (last : get_or bits (used / 8) 0 ≡ byte) where
    zero_has : byte / 2 ^ (used % 8) ≡ 0 → has_unused n bits ≡ false
    zero_has e = none_has bits (bit_count n) 8 (λ number least. by number (omega (arith, least, is)) (cases_lt (used / 8) (number / 8)))
      where
        here : (number : ℕ) → used ≤ number → number / 8 ≡ used / 8 → bit_in bits number ≡ false
        here number least same =
            let k : number % 8 ≡ used % 8 + (number % 8 - used % 8) = omega (arith, least, same) in
            bit_none bits number (ap (λ m. bit_at (get_or bits m 0) (number % 8)) same ∙ ap (λ b. bit_at b (number % 8)) last ∙ ap (bit_at byte) k ∙ further_bit byte (used % 8) (number % 8 - used % 8) ∙ ap (λ b. bit_at b (number % 8 - used % 8)) e
            ∙ bit_at-zero (number % 8 - used % 8))

        by : (number : ℕ) → used ≤ number → (used / 8 < number / 8) ⊎ (number / 8 ≤ used / 8) → bit_in bits number ≡ false
        by number least (inl further) = past_end number (let far : length bits ≤ number / 8 = omega (arith, further, is, long) in far)
        by number least (inr near) = here number least (let same : number / 8 ≡ used / 8 = omega (arith, near, least) in same)

    none_zero : has_unused n bits ≡ false → byte / 2 ^ (used % 8) ≡ 0
    none_zero none = same_from_bits (byte / 2 ^ (used % 8)) 0 (λ i. sym (further_bit byte (used % 8) i) ∙ by i (cases_lt (used % 8 + i) 8) ∙ sym (bit_at-zero i))
      where
        fits : BitsFit n bits
        fits = all_unused n bits long none

        here : (i number : ℕ) → number ≡ used / 8 * 8 + (used % 8 + i) → used % 8 + i < 8 → bit_at byte (used % 8 + i) ≡ 0
        here i number number_is lt =
            let at : number / 8 ≡ used / 8 = omega (arith, number_is, lt) in
            let k : number % 8 ≡ used % 8 + i = omega (arith, number_is, lt) in
            let zero_bit = none_bit bits number (fits.unused number (omega (arith, number_is, is))) in
            sym (ap (λ m. bit_at (get_or bits m 0) (number % 8)) at ∙ ap (λ b. bit_at b (number % 8)) last ∙ ap (bit_at byte) k) ∙ zero_bit

        by : (i : ℕ) → (used % 8 + i < 8) ⊎ (8 ≤ used % 8 + i) → bit_at byte (used % 8 + i) ≡ 0
        by i (inl lt) = here i (used / 8 * 8 + (used % 8 + i)) refl lt
        by i (inr le) = bit_at_above byte 8 (used % 8 + i) small le

    pub some_unused : not (nat_eq (byte / 2 ^ (used % 8)) 0) ≡ has_unused n bits
    some_unused = by (byte / 2 ^ (used % 8)) (has_unused n bits) zero_has none_zero
      where
        by : (b : ℕ) (has : Bool) → (b ≡ 0 → has ≡ false) → (has ≡ false → b ≡ 0) → not (nat_eq b 0) ≡ has
        by zero true f g = absurd (false≢true (sym (f refl)))
        by zero false f g = refl
        by (suc b) true f g = ap not (not_zero (suc b) (omega arith))
        by (suc b) false f g = absurd (let no : suc b ≡ 0 = g refl in omega (arith, no))

-- ---- reading

IsBytes-drop : (n : ℕ) (bytes : List ℕ) → IsBytes bytes → IsBytes (drop n bytes)
IsBytes-drop n bytes h i = rw get_or-drop (h (n + i))

bits_take : (n count : ℕ) (bytes : List ℕ) (left : ℕ) (x : List ℕ × List ℕ) → count ≡ byte_count n → IsBytes bytes
    → ◌≡◌ {A = Read (List ℕ)} (cond (ltb (length bytes) count) (Err short) (cond (has_unused n (take count bytes)) (Err (field left)) (Ok (take count bytes, drop count bytes)))) (Ok x) → Takes bytes x.0 x.1 × BitsFit n x.0
bits_take n count bytes left x is fits e =
    let p = no_then (ltb (length bytes) count) short (cond (has_unused n (take count bytes)) (Err (field left)) (Ok (take count bytes, drop count bytes))) x e in
    let q = no_then (has_unused n (take count bytes)) (field left) (Ok (take count bytes, drop count bytes)) x p.1 in
    let enough : count ≤ length bytes = ltb-false (length bytes) count p.0 in
    let front : Takes bytes (take count bytes) (drop count bytes) = record { parts = sym (take-append-drop count bytes); rest_fits = IsBytes-drop count bytes fits } in
    subst (λ (y : List ℕ × List ℕ). Takes bytes y.0 y.1 × BitsFit n y.0) (ok_is (take count bytes, drop count bytes) x q.1) (front, all_unused n (take count bytes) (length-take-le count bytes enough ∙ is) q.0)

bits_again : (n count : ℕ) (bits rest : List ℕ) (left : ℕ) → count ≡ byte_count n → BitsFit n bits
    → ◌≡◌ {A = Read (List ℕ)} (cond (ltb (length (bits ++ rest)) count) (Err short) (cond (has_unused n (take count (bits ++ rest))) (Err (field left)) (Ok (take count (bits ++ rest), drop count (bits ++ rest))))) (Ok (bits, rest))
bits_again n count bits rest left is fits =
    let long : length bits ≡ count = fits.long ∙ sym is in
    let enough : count ≤ length (bits ++ rest) = omega (arith, long, length-append bits rest) in
    rw (le-ltb (length (bits ++ rest)) count enough, take_at bits rest count long, drop_at bits rest count long, none_has bits (bit_count n) 8 fits.unused) refl

pub bits_law : (n : ℕ) → Law (bits_at n) (λ bits. bits) (BitsFit n)
unfolding bits_at
bits_law n = record {
  takes = λ bytes x fits e. bits_take n (byte_count n) bytes (length bytes - bit_count n / 8) x refl fits e;
  again = λ bits rest fits. bits_again n (byte_count n) bits rest (length (bits ++ rest) - bit_count n / 8) refl fits;
}
