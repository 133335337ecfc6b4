-- What is in a set after a change to its bits.
use Rattle.std.proofs.Common.{◌≡◌, ◌∙◌, ◌⊎◌, inl, inr, ℕ, ◌-◌, ◌*◌, ◌/◌, ◌%◌, ◌^◌, ◌<◌, ◌≤◌, min, max, Bool, true, false, not, ◌&&◌, ◌||◌, ◌==◌, nat_lt, nat_eq, MatchBool, refl, sym, ap, arith}
use Rattle.std.specs.Int.{bit_at, w128, trailing_zeros}
use Rattle.std.specs.Int.Bits.{bit_and, bit_or}
use Rattle.std.proofs.lemmas.Bool.Decides.{nat_tests}
use Rattle.std.proofs.lemmas.Bool.{cases_eq, cases_lt, cases_Bool, both_ways, and_from, eq-eqb, ne_eqb, lt-ltb, le-ltb}
use Rattle.std.proofs.lemmas.Nat.{one_shl, pow_pos, and_le_l}
use Rattle.std.proofs.Math.Nat.{zero-mul, one-mul}
use Rattle.std.proofs.lemmas.Nat.Bits.{bit_at_and, bit_at_or, bit_at-lt, bit_at-zero, and_pow, bit_at_ones, bit_at_ones_above, ones_shr, bit_at_set_same, bit_at_set_other, bit_at_clear_same, bit_at_clear_other, bit_at_not, bit_at-trailing_zeros}
use Rattle.rc_base.specs.BitSets.{marks}

-- whether a bit is set
abbrev bit : ℕ → ℕ → Bool
bit a x = bit_at a x == 1

-- below 128 a number is in the set where its bit is set, and from 128 on none is
marks_here : (a x : ℕ) → x < 128 → marks a x ≡ bit a x
unfolding marks
marks_here a x l = ap (λ t. t && bit a x) (lt-ltb x 128 l)

marks_beyond : (a x : ℕ) → 128 ≤ x → marks a x ≡ false
unfolding marks
marks_beyond a x l = ap (λ t. t && bit a x) (le-ltb x 128 l)

and_neither : (t p : Bool) → p ≡ false → (t && p) ≡ false
and_neither true p e = e
and_neither false p e = refl

over_either : (t p q r : Bool) → p ≡ (q || r) → (t && p) ≡ ((t && q) || (t && r))
over_either true p q r e = e
over_either false p q r e = refl

over_both : (t p q r : Bool) → p ≡ (q && r) → (t && p) ≡ ((t && q) && (t && r))
over_both true p q r e = e
over_both false p q r e = refl

pub marks_none : (x : ℕ) → marks 0 x ≡ false
unfolding marks
marks_none x = and_neither (nat_lt x 128) (bit 0 x) (ap (λ b. b == 1) (bit_at-zero x))

is_bit : (a : ℕ) → a < 2 → (a ≡ 0) ⊎ (a ≡ 1)
is_bit a l = elim (nat_lt 0 a) as (λ t. nat_lt 0 a ≡ t → (a ≡ 0) ⊎ (a ≡ 1)) [ true ↦ λ t. inr (grind (arith, nat_tests)) | false ↦ λ t. inl (grind (arith, nat_tests)) ] refl

or_test : (a b : ℕ) → a < 2 → b < 2 → (max a b == 1) ≡ (a == 1 || b == 1)
or_test a b l m = elim (is_bit a l) [ inl p ↦ elim (is_bit b m) [ inl q ↦ rw (p, q) | inr q ↦ rw (p, q) ] | inr p ↦ elim (is_bit b m) [ inl q ↦ rw (p, q) | inr q ↦ rw (p, q) ] ]

and_test : (a b : ℕ) → a < 2 → b < 2 → (min a b == 1) ≡ (a == 1 && b == 1)
and_test a b l m = elim (is_bit a l) [ inl p ↦ elim (is_bit b m) [ inl q ↦ rw (p, q) | inr q ↦ rw (p, q) ] | inr p ↦ elim (is_bit b m) [ inl q ↦ rw (p, q) | inr q ↦ rw (p, q) ] ]

pub marks_either : (a b x : ℕ) → marks (bit_or a b) x ≡ (marks a x || marks b x)
unfolding marks
marks_either a b x = over_either (nat_lt x 128) (bit (bit_or a b) x) (bit a x) (bit b x) (ap (λ n. n == 1) (bit_at_or a b x) ∙ or_test (bit_at a x) (bit_at b x) (bit_at-lt a x) (bit_at-lt b x))

pub marks_both : (a b x : ℕ) → marks (bit_and a b) x ≡ (marks a x && marks b x)
unfolding marks
marks_both a b x = over_both (nat_lt x 128) (bit (bit_and a b) x) (bit a x) (bit b x) (ap (λ n. n == 1) (bit_at_and a b x) ∙ and_test (bit_at a x) (bit_at b x) (bit_at-lt a x) (bit_at-lt b x))

-- the first n numbers
first_ones : (n x : ℕ) → bit (2 ^ n - 1) x ≡ nat_lt x n
first_ones n x = elim (nat_lt x n) as (λ t. nat_lt x n ≡ t → (bit_at (2 ^ n - 1) x == 1) ≡ t) [ true ↦ λ t. ap (λ b. b == 1) (bit_at_ones n x (grind (arith, nat_tests))) | false ↦ λ t. ap (λ b. b == 1) (bit_at_ones_above n x (grind (arith, nat_tests))) ] refl

ones_left : (w n : ℕ) → n ≤ w → (2 ^ w - 1) / 2 ^ (w - n) ≡ 2 ^ n - 1
ones_left w n l = ones_shr w (w - n) (omega arith) ∙ (let same : w - (w - n) ≡ n = omega arith in ap (λ k. 2 ^ k - 1) same)

below_both : (n x : ℕ) → n ≤ 128 → (nat_lt x 128 && nat_lt x n) ≡ nat_lt x n
below_both n x l = grind (arith, nat_tests)

pub marks_first : (n x : ℕ) → n ≤ 128 → marks ((2 ^ 128 - 1) / 2 ^ (128 - n)) x ≡ nat_lt x n
unfolding marks
marks_first n x l = ap (λ a. nat_lt x 128 && bit a x) (ones_left 128 n l) ∙ ap (λ b. nat_lt x 128 && b) (first_ones n x) ∙ below_both n x l

-- one number of a set
zero_test : (a p : ℕ) → a < 2 → 0 < p → (a * p == 0) ≡ not (a == 1)
zero_test a p l m = elim (is_bit a l) [ inl e ↦ rw e (rw zero-mul refl) | inr e ↦ rw e (rw one-mul (ne_eqb p 0 (omega arith))) ]

pub marks_has : (a x : ℕ) → x < 128 → (bit_and a (1 * 2 ^ x % 2 ^ 128) == 0) ≡ not (marks a x)
marks_has a x l = ap (λ b. bit_and a b == 0) (one_shl x 128 l) ∙ ap (λ n. n == 0) (and_pow a x) ∙ zero_test (bit_at a x) (2 ^ x) (bit_at-lt a x) (pow_pos x) ∙ ap not (sym (marks_here a x l))

or_is : (b c : Bool) → c ≡ true → true ≡ (b || c)
or_is true c e = refl
or_is false c e = sym e

or_is_not : (b c : Bool) → c ≡ false → b ≡ (b || c)
or_is_not true c e = refl
or_is_not false c e = sym e

and_is_not : (b c : Bool) → c ≡ true → false ≡ (b && not c)
and_is_not true c e = ap (λ d. not d) (sym e)
and_is_not false c e = refl

and_is : (b c : Bool) → c ≡ false → b ≡ (b && not c)
and_is true c e = ap (λ d. not d) (sym e)
and_is false c e = refl

bit_with : (a x y : ℕ) → x < 128 → bit (bit_or a (1 * 2 ^ x % 2 ^ 128)) y ≡ (bit a y || y == x)
bit_with a x y l = elim (cases_eq y x) [
  | inl e ↦ rw e (ap (λ b. b == 1) (bit_at_set_same w128 a x l) ∙ or_is (bit a x) (x == x) (eq-eqb x x refl))
  | inr ne ↦ ap (λ b. b == 1) (bit_at_set_other w128 a x l y ne) ∙ or_is_not (bit a y) (y == x) (ne_eqb y x ne)
]

pub marks_with : (a x y : ℕ) → x < 128 → marks (bit_or a (1 * 2 ^ x % 2 ^ 128)) y ≡ (marks a y || y == x)
marks_with a x y l = elim (cases_lt y 128) [
  | inl lt ↦ marks_here _ y lt ∙ bit_with a x y l ∙ ap (λ b. b || y == x) (sym (marks_here a y lt))
  | inr ge ↦ marks_beyond _ y ge ∙ sym ((λ i. marks_beyond a y ge i || ne_eqb y x (omega arith) i))
]

bit_without : (a x y : ℕ) → x < 128 → y < 128 → bit (bit_and a (2 ^ 128 - 1 - 1 * 2 ^ x % 2 ^ 128)) y ≡ (bit a y && not (y == x))
bit_without a x y l m = elim (cases_eq y x) [
  | inl e ↦ rw e (ap (λ b. b == 1) (bit_at_clear_same w128 a x l) ∙ and_is_not (bit a x) (x == x) (eq-eqb x x refl))
  | inr ne ↦ ap (λ b. b == 1) (bit_at_clear_other w128 a x l y m ne) ∙ and_is (bit a y) (y == x) (ne_eqb y x ne)
]

pub marks_without : (a x y : ℕ) → x < 128 → marks (bit_and a (2 ^ 128 - 1 - 1 * 2 ^ x % 2 ^ 128)) y ≡ (marks a y && not (y == x))
marks_without a x y l = elim (cases_lt y 128) [
  | inl lt ↦ marks_here _ y lt ∙ bit_without a x y l lt ∙ ap (λ b. b && not (y == x)) (sym (marks_here a y lt))
  | inr ge ↦ marks_beyond _ y ge ∙ sym (ap (λ b. b && not (y == x)) (marks_beyond a y ge))
]

le_lt : (i j k : ℕ) → i ≤ j → j < k → i < k
le_lt i j k p q = omega arith

-- the least number of a set that isn't empty
pub least_mark : (a : ℕ) → a < 2 ^ 128 → 0 < a → (trailing_zeros w128 a < 128) × (marks a (trailing_zeros w128 a) ≡ true) × ((y : ℕ) → y < trailing_zeros w128 a → marks a y ≡ false)
least_mark a l some =
    let low = bit_at-trailing_zeros w128 a some l in
    (low.0, marks_here a _ low.0 ∙ ap (λ b. b == 1) low.1, λ y below. marks_here a y (omega (arith, low.0, below)) ∙ ap (λ b. b == 1) (low.2 y below))

-- a set that isn't empty has a number
pub some_mark : (a : ℕ) → a < 2 ^ 128 → 0 < a → (x : ℕ) × (marks a x ≡ true)
some_mark a l some = (trailing_zeros w128 a, (least_mark a l some).1)

-- an empty set has none
pub no_mark : (a x : ℕ) → a ≡ 0 → marks a x ≡ false
no_mark a x e = ap (λ r. marks r x) e ∙ marks_none x

pub empty_tells : (a : ℕ) → a < 2 ^ 128 → MatchBool (nat_eq a 0) ((x : ℕ) → marks a x ≡ false) ((x : ℕ) × (marks a x ≡ true))
empty_tells a l = elim (cases_eq a 0) [
  | inl none ↦ rw (eq-eqb a 0 none) (λ x. no_mark a x none)
  | inr some ↦ rw (ne_eqb a 0 some) (some_mark a l (omega arith))
]

not_bit : (b : ℕ) → b < 2 → (1 - b == 1) ≡ not (b == 1)
not_bit b l = elim (is_bit b l) [ inl e ↦ rw e | inr e ↦ rw e ]

-- what isn't in a set
marks_not : (a x : ℕ) → a < 2 ^ 128 → x < 128 → marks (2 ^ 128 - 1 - a) x ≡ not (marks a x)
marks_not a x l m = marks_here _ x m ∙ ap (λ b. b == 1) (bit_at_not w128 a x l m) ∙ not_bit (bit_at a x) (bit_at-lt a x) ∙ ap not (sym (marks_here a x m))

pub marks_difference : (a b x : ℕ) → b < 2 ^ 128 → marks (bit_and a (2 ^ 128 - 1 - b)) x ≡ (marks a x && not (marks b x))
marks_difference a b x l = marks_both a (2 ^ 128 - 1 - b) x ∙ elim (cases_lt x 128) [
  | inl lt ↦ ap (λ c. marks a x && c) (marks_not b x l lt)
  | inr ge ↦ ap (λ c. c && marks (2 ^ 128 - 1 - b) x) (marks_beyond a x ge) ∙ sym (ap (λ c. c && not (marks b x)) (marks_beyond a x ge))
]

and_true : (b c : Bool) → (b && c) ≡ true → (b ≡ true) × (c ≡ true)
and_true true true e = (refl, refl)
and_true true false e = cc
and_true false c e = cc

not_true : (b : Bool) → not b ≡ true → b ≡ false
not_true true e = cc
not_true false e = refl

-- a number of both sets, where they have one
pub common_mark : (a b : ℕ) → a < 2 ^ 128 → b < 2 ^ 128 → 0 < bit_and a b → (x : ℕ) × (marks a x ≡ true) × (marks b x ≡ true)
common_mark a b l m some =
    let at = some_mark (bit_and a b) (le_lt _ _ _ (and_le_l a b) l) some in
    let both = and_true (marks a at.0) (marks b at.0) (sym (marks_both a b at.0) ∙ at.1) in
    (at.0, both.0, both.1)

pub no_common_mark : (a b x : ℕ) → bit_and a b ≡ 0 → (marks a x && marks b x) ≡ false
no_common_mark a b x none = sym (marks_both a b x) ∙ no_mark (bit_and a b) x none

-- a set has no number from 128 on
pub marks_below : (a x : ℕ) → marks a x ≡ true → x < 128
marks_below a x is = elim (cases_lt x 128) [ inl lt ↦ lt | inr ge ↦ absurd (both_ways (marks a x) (marks_beyond a x ge) is) ]

rest_lt : (b : ℕ) → 2 ^ 128 - 1 - b < 2 ^ 128
rest_lt b = omega arith

-- a number of the first set alone, where it has one
pub excess_mark : (a b : ℕ) → a < 2 ^ 128 → b < 2 ^ 128 → 0 < bit_and a (2 ^ 128 - 1 - b) → (x : ℕ) × (marks a x ≡ true) × (marks b x ≡ false)
excess_mark a b l m some =
    let at = common_mark a (2 ^ 128 - 1 - b) l (rest_lt b) some in
    (at.0, at.1, not_true (marks b at.0) (sym (marks_not b at.0 m (marks_below a at.0 at.1)) ∙ at.2))

pub no_excess_mark : (a b x : ℕ) → b < 2 ^ 128 → bit_and a (2 ^ 128 - 1 - b) ≡ 0 → marks a x ≡ true → marks b x ≡ true
no_excess_mark a b x m none is = elim (cases_Bool (marks b x)) [
  | inl there ↦ there
  | inr absent ↦
      let outside : marks (2 ^ 128 - 1 - b) x ≡ true = marks_not b x m (marks_below a x is) ∙ ap (λ c. not c) absent in
      absurd (both_ways _ (no_common_mark a (2 ^ 128 - 1 - b) x none) (and_from (marks a x) _ is outside))
]
