-- Bytes whose bits stand for facts.
use Rattle.std.proofs.Common.{◌≡◌, ◌≢◌, ◌∙◌, ◌⊎◌, inl, inr, ℕ, zero, suc, ◌+◌, ◌*◌, ◌/◌, ◌%◌, ◌^◌, ◌<◌, ◌≤◌, ◌++◌, ◌∷◌, [], max, Bool, true, false, ◌&&◌, ◌==◌, IsTrue, List, length, get_or, refl, sym, ap, subst, arith}
use Rattle.std.specs.Int.{bit_at}
use Rattle.std.specs.Int.Bits.{bit_or}
use Rattle.std.proofs.lemmas.Bool.{cases_lt}
use Rattle.std.proofs.lemmas.Nat.{div-add-mod', one_shl}
use Rattle.std.proofs.lemmas.Nat.Bits.{bit_at-lt, bit_at-zero, bit_at_or, bit_at-pow_same, bit_at-pow_other}
use Rattle.rc_facts.specs.declared.fact.Fact.{Fact}
use Rattle.rc_facts.specs.Facts.{is_over}
use Rattle.rc_claims.specs.Bits.{bit_in, bit_number, bit_count, byte_count, claims, BitsFit}
use Rattle.rc_fact_bits.specs.Standing.{Stands, ByteStands}
use Rattle.rc_fact_bits.proofs.Order.{number_below, same_number}

-- ---- one byte

with_other : (byte k j : ℕ) → k < 8 → j ≢ k → bit_at (bit_or byte ((1 * 2 ^ k) % 2 ^ 8)) j ≡ bit_at byte j
with_other byte k j lt apart =
    let most : max (bit_at byte j) 0 ≡ bit_at byte j = omega arith in
    ap (λ q. bit_at (bit_or byte q) j) (one_shl k 8 lt) ∙ bit_at_or byte (2 ^ k) j ∙ ap (max (bit_at byte j)) (bit_at-pow_other k j apart) ∙ most

with_same : (byte k : ℕ) → k < 8 → bit_at (bit_or byte ((1 * 2 ^ k) % 2 ^ 8)) k ≡ 1
with_same byte k lt =
    let most : max (bit_at byte k) 1 ≡ 1 = omega (arith, bit_at-lt byte k) in
    ap (λ q. bit_at (bit_or byte q) k) (one_shl k 8 lt) ∙ bit_at_or byte (2 ^ k) k ∙ ap (max (bit_at byte k)) (bit_at-pow_same k) ∙ most

-- the first k bits stand, and the others are 0
pub record Filled (n : ℕ) (facts : Fact → Bool) (start k byte : ℕ) : Type 0 where
  pub known : (j : ℕ) → j < k → Stands n facts (start + j) (bit_at byte j == 1)
  pub blank : (j : ℕ) → k ≤ j → bit_at byte j ≡ 0

module _ (n : ℕ) (facts : Fact → Bool) (start : ℕ) where
  pub fill_none : Filled n facts start 0 0
  fill_none = record { known = λ j lt. absurd (omega (arith, lt)); blank = λ j le. bit_at-zero j }

  pub fill_one : (k byte : ℕ) → k < 8 → Filled n facts start k byte → Stands n facts (start + k) true → Filled n facts start (suc k) (bit_or byte ((1 * 2 ^ k) % 2 ^ 8))
  fill_one k byte lt f s = record {
    known = λ j less. by j (cases_lt j k) less;
    blank = λ j le. with_other byte k j lt (λ e. omega (arith, e, le)) ∙ f.blank j (omega (arith, le));
  }
    where
      by : (j : ℕ) → (j < k) ⊎ (k ≤ j) → j < suc k → Stands n facts (start + j) (bit_at (bit_or byte ((1 * 2 ^ k) % 2 ^ 8)) j == 1)
      by j (inl l) less = subst (λ b. Stands n facts (start + j) (b == 1)) (sym (with_other byte k j lt (λ e. omega (arith, e, l)))) (f.known j l)
      by j (inr g) less =
          let e : k ≡ j = omega (arith, g, less) in
          subst (λ i. Stands n facts (start + i) (bit_at (bit_or byte ((1 * 2 ^ k) % 2 ^ 8)) i == 1)) e (subst (λ b. Stands n facts (start + k) (b == 1)) (sym (with_same byte k lt)) s)

  pub fill_zero : (k byte : ℕ) → Filled n facts start k byte → Stands n facts (start + k) false → Filled n facts start (suc k) byte
  fill_zero k byte f s = record {
    known = λ j less. by j (cases_lt j k) less;
    blank = λ j le. f.blank j (omega (arith, le));
  }
    where
      by : (j : ℕ) → (j < k) ⊎ (k ≤ j) → j < suc k → Stands n facts (start + j) (bit_at byte j == 1)
      by j (inl l) less = f.known j l
      by j (inr g) less =
          let e : k ≡ j = omega (arith, g, less) in
          subst (λ i. Stands n facts (start + i) (bit_at byte i == 1)) e (subst (λ b. Stands n facts (start + k) (b == 1)) (sym (f.blank k (omega arith))) s)

  -- one bit more, as it is
  pub fill_on : (k next byte new : ℕ) (so : Bool) → next ≡ k + 1 → k < 8 → Filled n facts start k byte → Stands n facts (start + k) so → (so ≡ true → new ≡ bit_or byte ((1 * 2 ^ k) % 2 ^ 8)) → (so ≡ false → new ≡ byte) → Filled n facts start next new
  fill_on k next byte new true is lt f s with_it without =
      let i : next ≡ suc k = omega (arith, is) in subst (λ m. Filled n facts start m new) (sym i) (subst (Filled n facts start (suc k)) (sym (with_it refl)) (fill_one k byte lt f s))
  fill_on k next byte new false is lt f s with_it without =
      let i : next ≡ suc k = omega (arith, is) in subst (λ m. Filled n facts start m new) (sym i) (subst (Filled n facts start (suc k)) (sym (without refl)) (fill_zero k byte f s))

  pub filled_stands : (byte : ℕ) → Filled n facts start 8 byte → ByteStands n facts start byte
  filled_stands byte f = f.known

-- ---- all bytes

-- the first bytes stand
pub record Packed (n : ℕ) (facts : Fact → Bool) (count : ℕ) (bytes : List ℕ) : Type 0 where
  pub long : length bytes ≡ count
  pub each : (m : ℕ) → m < count → ByteStands n facts (m * 8) (get_or bytes m 0)

earlier : (bytes : List ℕ) (byte m : ℕ) → m < length bytes → get_or (bytes ++ byte ∷ []) m 0 ≡ get_or bytes m 0
earlier (b ∷ bs) byte zero lt = refl
earlier (b ∷ bs) byte (suc m) lt = earlier bs byte m (omega (arith, lt))
earlier [] byte m lt = absurd (omega (arith, lt))

latest : (bytes : List ℕ) (byte : ℕ) → get_or (bytes ++ byte ∷ []) (length bytes) 0 ≡ byte
latest [] byte = refl
latest (b ∷ bs) byte = latest bs byte

longer : (bytes : List ℕ) (byte : ℕ) → length (bytes ++ byte ∷ []) ≡ suc (length bytes)
longer [] byte = refl
longer (b ∷ bs) byte = ap suc (longer bs byte)

module _ (n : ℕ) (facts : Fact → Bool) where
  pub pack_none : Packed n facts 0 []
  pack_none = record { long = refl; each = λ m lt. absurd (omega (arith, lt)) }

  pub pack_more : (count : ℕ) (bytes new : List ℕ) (byte : ℕ) → Packed n facts count bytes → ByteStands n facts (count * 8) byte → new ≡ bytes ++ byte ∷ [] → Packed n facts (suc count) new
  pack_more count bytes new byte p s is = subst (λ (all : List ℕ). Packed n facts (suc count) all) (sym is) (record {
    long = longer bytes byte ∙ ap suc p.long;
    each = λ m less. by m (cases_lt m count) less;
  })
    where
      by : (m : ℕ) → (m < count) ⊎ (count ≤ m) → m < suc count → ByteStands n facts (m * 8) (get_or (bytes ++ byte ∷ []) m 0)
      by m (inl l) less = let long = p.long in subst (ByteStands n facts (m * 8)) (sym (earlier bytes byte m (omega (arith, l, long)))) (p.each m l)
      by m (inr g) less =
          let e : count ≡ m = omega (arith, g, less) in
          subst (λ i. ByteStands n facts (i * 8) (get_or (bytes ++ byte ∷ []) i 0)) e (subst (ByteStands n facts (count * 8)) (sym (ap (λ i. get_or (bytes ++ byte ∷ []) i 0) (sym p.long) ∙ latest bytes byte)) s)

  stands_in : (count : ℕ) (bytes : List ℕ) → Packed n facts count bytes → (number : ℕ) → number / 8 < count → Stands n facts number (bit_in bytes number)
  unfolding bit_in
  stands_in count bytes p number lt = subst (λ q. Stands n facts q (bit_at (get_or bytes (number / 8) 0) (number % 8) == 1)) (div-add-mod' number 8) (p.each (number / 8) lt (number % 8) (omega arith))

  zero_in : (bytes : List ℕ) (number : ℕ) → length bytes ≤ number / 8 → bit_in bytes number ≡ false
  unfolding bit_in
  zero_in bytes number le = ap (λ b. bit_at b (number % 8) == 1) (past bytes (number / 8) le) ∙ ap (λ b. b == 1) (bit_at-zero (number % 8))
    where
      past : (all : List ℕ) (m : ℕ) → length all ≤ m → get_or all m 0 ≡ 0
      past [] m l = refl
      past (b ∷ bs) zero l = absurd (omega (arith, l))
      past (b ∷ bs) (suc m) l = past bs m (omega (arith, l))

  pub packed_claims : (bytes : List ℕ) → Packed n facts (byte_count n) bytes → (fact : Fact) → claims n bytes fact ≡ (is_over n fact && facts fact)
  packed_claims bytes p fact = by (is_over n fact) refl
    where
      by : (b : Bool) → is_over n fact ≡ b → (b && bit_in bytes (bit_number n fact)) ≡ (b && facts fact)
      by false e = refl
      by true e = let below = number_below n fact e in (stands_in (byte_count n) bytes p (bit_number n fact) (omega (arith, below))).told fact e refl

  pub packed_fit : (bytes : List ℕ) → Packed n facts (byte_count n) bytes → BitsFit n bytes
  packed_fit bytes p = record { long = p.long; unused = λ number le. by number le (cases_lt (number / 8) (byte_count n)) }
    where
      by : (number : ℕ) → bit_count n ≤ number → (number / 8 < byte_count n) ⊎ (byte_count n ≤ number / 8) → bit_in bytes number ≡ false
      by number le (inl l) = (stands_in (byte_count n) bytes p number l).unused le
      by number le (inr g) = let long = p.long in zero_in bytes number (omega (arith, g, long))

-- ---- one bit

-- a fact that has that number says what its bit says
pub some_stands : (n number : ℕ) (facts : Fact → Bool) (p : Fact) → IsTrue (is_over n p) → bit_number n p ≡ number → (b : Bool) → b ≡ facts p → Stands n facts number b
some_stands n number facts p over is b same = record {
  told = λ q k e. same ∙ ap facts (same_number n p q over k (is ∙ sym e));
  unused = λ le. let below = number_below n p over in absurd (omega (arith, below, is, le));
}
