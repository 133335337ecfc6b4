-- Bytes that claim the same facts are the same.
use Rattle.std.proofs.Common.{◌≡◌, ◌<◌, ◌≤◌, ◌⊎◌, ◌∙◌, ◌+◌, ◌*◌, ◌-◌, ◌/◌, ◌%◌, ◌&&◌, ◌==◌, ℕ, zero, suc, true, List, [], ◌∷◌, get_or, inl, inr, refl, sym, ap, arith}
use Rattle.std.specs.Int.{bit_at}
use Rattle.std.specs.List.{AllByRecursion as Every}
use Rattle.std.specs.Prelude.{nat_lt}
use Rattle.std.proofs.Math.Nat.{div-lt_iff_lt-mul, mod-lt}
use Rattle.std.proofs.lemmas.Bool.{and_from, cases_lt, lt-ltb}
use Rattle.std.proofs.lemmas.List.{ext_get_or}
use Rattle.std.proofs.lemmas.Nat.{div-add-mod'}
use Rattle.std.proofs.lemmas.Nat.Bits.{bit_at-lt, same_from_bits_below}
use Rattle.rc_core.specs.Numbers.{IsByte}
use Rattle.rc_facts.specs.declared.fact.Fact.{Fact}
use Rattle.rc_facts.specs.declared.fact.Fact.TheVariants.{In, Up, Trad, NonNull}
use Rattle.rc_facts.specs.Facts.{is_over}
use Rattle.rc_claims.specs.Bits.{BitsFit, bit_count, bit_in, bit_number, claims}

-- ---- each bit that is used is that of a fact

record HasNumber (n number : ℕ) : Type 0 where
  pub fact : Fact
  pub over : is_over n fact ≡ true
  pub is : bit_number n fact ≡ number

data Part (n s number : ℕ) : Type 0 where
  first : number < s → Part n s number
  second : (c : ℕ) → c < s → s + c ≡ number → Part n s number
  third : (c : ℕ) → c < n → 2 * s + c ≡ number → Part n s number
  fourth : (c : ℕ) → c < n → 2 * s + (n + c) ≡ number → Part n s number

part : (n s number : ℕ) → number < 2 * s + 2 * n → Part n s number
part n s number l = by (cases_lt number s) (cases_lt number (2 * s)) (cases_lt number (2 * s + n))
  where
    by : (number < s) ⊎ (s ≤ number) → (number < 2 * s) ⊎ (2 * s ≤ number) → (number < 2 * s + n) ⊎ (2 * s + n ≤ number) → Part n s number
    by (inl a) b c = first a
    by (inr a) (inl b) c = second (number - s) (omega (arith, a, b)) (omega (arith, a, b))
    by (inr a) (inr b) (inl c) = third (number - 2 * s) (omega (arith, b, c)) (omega (arith, b, c))
    by (inr a) (inr b) (inr c) = fourth (number - (2 * s + n)) (omega (arith, c, l)) (omega (arith, c, l))

record IsPair (n c : ℕ) : Type 0 where
  pub high : nat_lt (c / n) n ≡ true
  pub low : nat_lt (c % n) n ≡ true
  pub is : c / n * n + c % n ≡ c

pair : (n c : ℕ) → c < n * n → IsPair n c
pair zero c l = absurd (omega (arith, l))
pair (suc m) c l = record {
  high = lt-ltb (c / suc m) (suc m) ((div-lt_iff_lt-mul {k = suc m} {x = c} {y = suc m} (omega arith)).1 l);
  low = lt-ltb (c % suc m) (suc m) (mod-lt c {m = suc m} (omega arith));
  is = div-add-mod' c (suc m);
}

numbered : (n number : ℕ) → number < bit_count n → HasNumber n number
numbered n number l = by (part n (n * n) number l)
  where
    by : Part n (n * n) number → HasNumber n number
    by (first a) = let p = pair n number a in record { fact = In (number / n) (number % n); over = and_from (nat_lt (number / n) n) (nat_lt (number % n) n) p.high p.low; is = p.is }
    by (second c a e) = let p = pair n c a in record { fact = Up (c / n) (c % n); over = and_from (nat_lt (c / n) n) (nat_lt (c % n) n) p.high p.low; is = ap (λ k. n * n + k) p.is ∙ e }
    by (third c a e) = record { fact = Trad c; over = lt-ltb c n a; is = e }
    by (fourth c a e) = record { fact = NonNull c; over = lt-ltb c n a; is = e }

-- ---- so equal claims are equal bits

claimed : (n : ℕ) (bytes : List ℕ) (number : ℕ) (has : HasNumber n number) → claims n bytes has.fact ≡ bit_in bytes number
claimed n bytes number has = ap (λ o. o && bit_in bytes (bit_number n has.fact)) has.over ∙ ap (bit_in bytes) has.is

module _ (n : ℕ) (xs ys : List ℕ) (xs_fit : BitsFit n xs) (ys_fit : BitsFit n ys) (same : (fact : Fact) → claims n xs fact ≡ claims n ys fact) where
  same_bits : (number : ℕ) → bit_in xs number ≡ bit_in ys number
  same_bits number = by (cases_lt number (bit_count n))
    where
      by : (number < bit_count n) ⊎ (bit_count n ≤ number) → bit_in xs number ≡ bit_in ys number
      by (inl l) = let has = numbered n number l in sym (claimed n xs number has) ∙ same has.fact ∙ claimed n ys number has
      by (inr l) = xs_fit.unused number l ∙ sym (ys_fit.unused number l)

-- ---- and equal bits equal bytes

one_bit : (u v : ℕ) → u < 2 → v < 2 → (u == 1) ≡ (v == 1) → u ≡ v
one_bit zero zero a b e = refl
one_bit zero (suc zero) a b e = absurd cc
one_bit (suc zero) zero a b e = absurd cc
one_bit (suc zero) (suc zero) a b e = refl
one_bit (suc (suc u)) v a b e = absurd (omega (arith, a))
one_bit u (suc (suc v)) a b e = absurd (omega (arith, b))

bit_is : (xs ys : List ℕ) (number k j : ℕ) → number / 8 ≡ k → number % 8 ≡ j → bit_in xs number ≡ bit_in ys number → (bit_at (get_or xs k 0) j == 1) ≡ (bit_at (get_or ys k 0) j == 1)
unfolding bit_in
bit_is xs ys number k j high low e =
    sym (ap (λ q. bit_at (get_or xs q 0) (number % 8) == 1) high ∙ ap (λ r. bit_at (get_or xs k 0) r == 1) low)
    ∙ e
    ∙ (ap (λ q. bit_at (get_or ys q 0) (number % 8) == 1) high ∙ ap (λ r. bit_at (get_or ys k 0) r == 1) low)

pub byte_below : (xs : List ℕ) → Every IsByte xs → (k : ℕ) → get_or xs k 0 < 256
byte_below [] all k = omega arith
byte_below (x ∷ xs) all zero = all.0
byte_below (x ∷ xs) all (suc k) = byte_below xs all.1 k

pub same_bytes : (n : ℕ) (xs ys : List ℕ) → BitsFit n xs → BitsFit n ys → Every IsByte xs → Every IsByte ys → ((fact : Fact) → claims n xs fact ≡ claims n ys fact) → xs ≡ ys
same_bytes n xs ys xs_fit ys_fit xs_bytes ys_bytes same = ext_get_or 0 xs ys (xs_fit.long ∙ sym ys_fit.long) (λ k there. same_byte k)
  where
    bit : (k j : ℕ) → j < 8 → bit_at (get_or xs k 0) j ≡ bit_at (get_or ys k 0) j
    bit k j l =
        let high : (8 * k + j) / 8 ≡ k = omega (arith, l) in
        let low : (8 * k + j) % 8 ≡ j = omega (arith, l) in
        one_bit (bit_at (get_or xs k 0) j) (bit_at (get_or ys k 0) j) (bit_at-lt (get_or xs k 0) j) (bit_at-lt (get_or ys k 0) j)
        (bit_is xs ys (8 * k + j) k j high low (same_bits n xs ys xs_fit ys_fit same (8 * k + j)))

    same_byte : (k : ℕ) → get_or xs k 0 ≡ get_or ys k 0
    same_byte k = same_from_bits_below 8 (get_or xs k 0) (get_or ys k 0) (byte_below xs xs_bytes k) (byte_below ys ys_bytes k) (bit k)
