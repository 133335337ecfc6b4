-- Numbers of facts.
use Rattle.std.proofs.Common.{◌≡◌, ◌∙◌, ◌+◌, ◌*◌, ◌<◌, ◌≤◌, ◌&&◌, ℕ, IsTrue, ap, arith, nat_lt}
use Rattle.std.proofs.lemmas.Bool.{and_parts, and_from, ltb-true, lt-ltb}
use Rattle.std.proofs.lemmas.Nat.{mul-add-lt, same_from_place}
use Rattle.rc_facts.specs.declared.fact.Fact.{Fact}
use Rattle.rc_facts.specs.declared.fact.Fact.TheVariants.{In, Up, Trad, NonNull}
use Rattle.rc_facts.specs.Facts.{is_over}
use Rattle.rc_claims.specs.Bits.{bit_number, bit_count}

both_over : (n x y : ℕ) → IsTrue (nat_lt x n && nat_lt y n) → (x < n) × (y < n)
both_over n x y o = let p = and_parts (nat_lt x n) (nat_lt y n) o in (ltb-true x n p.0, ltb-true y n p.1)

pub pair_over : (n x y : ℕ) → x < n → y < n → IsTrue (nat_lt x n && nat_lt y n)
pair_over n x y l m = and_from (nat_lt x n) (nat_lt y n) (lt-ltb x n l) (lt-ltb y n m)

pair_below : (n x y : ℕ) → IsTrue (nat_lt x n && nat_lt y n) → x * n + y < n * n
pair_below n x y o = let b = both_over n x y o in mul-add-lt x n y n b.0 b.1

same_pair : (n x y z w : ℕ) → IsTrue (nat_lt x n && nat_lt y n) → IsTrue (nat_lt z n && nat_lt w n) → x * n + y ≡ z * n + w → (x ≡ z) × (y ≡ w)
same_pair n x y z w o p e = same_from_place x y z w n (both_over n x y o).1 (both_over n z w p).1 e

-- facts of one number are one
pub same_number : (n : ℕ) (p q : Fact) → IsTrue (is_over n p) → IsTrue (is_over n q) → bit_number n p ≡ bit_number n q → p ≡ q
same_number n (In x y) (In z w) o k e = let s = same_pair n x y z w o k e in ap (λ a. In a y) s.0 ∙ ap (In z) s.1
same_number n (In x y) (Up z w) o k e = absurd (omega (arith, pair_below n x y o, e))
same_number n (In x y) (Trad z) o k e = absurd (omega (arith, pair_below n x y o, e))
same_number n (In x y) (NonNull z) o k e = absurd (omega (arith, pair_below n x y o, e))
same_number n (Up x y) (In z w) o k e = absurd (omega (arith, pair_below n z w k, e))
same_number n (Up x y) (Up z w) o k e = let i : x * n + y ≡ z * n + w = omega (arith, e) in let s = same_pair n x y z w o k i in ap (λ a. Up a y) s.0 ∙ ap (Up z) s.1
same_number n (Up x y) (Trad z) o k e = absurd (omega (arith, pair_below n x y o, e))
same_number n (Up x y) (NonNull z) o k e = absurd (omega (arith, pair_below n x y o, e))
same_number n (Trad x) (In z w) o k e = absurd (omega (arith, pair_below n z w k, e))
same_number n (Trad x) (Up z w) o k e = absurd (omega (arith, pair_below n z w k, e))
same_number n (Trad x) (Trad z) o k e = let i : x ≡ z = omega (arith, e) in ap Trad i
same_number n (Trad x) (NonNull z) o k e = absurd (let l = ltb-true x n o in omega (arith, l, e))
same_number n (NonNull x) (In z w) o k e = absurd (omega (arith, pair_below n z w k, e))
same_number n (NonNull x) (Up z w) o k e = absurd (omega (arith, pair_below n z w k, e))
same_number n (NonNull x) (Trad z) o k e = absurd (let l = ltb-true z n k in omega (arith, l, e))
same_number n (NonNull x) (NonNull z) o k e = let i : x ≡ z = omega (arith, e) in ap NonNull i

pub number_below : (n : ℕ) (p : Fact) → IsTrue (is_over n p) → bit_number n p < bit_count n
number_below n (In x y) o = omega (arith, pair_below n x y o)
number_below n (Up x y) o = omega (arith, pair_below n x y o)
number_below n (Trad x) o = let l = ltb-true x n o in omega (arith, l)
number_below n (NonNull x) o = let l = ltb-true x n o in omega (arith, l)

pub over_more : (n m : ℕ) → n ≤ m → (p : Fact) → IsTrue (is_over n p) → IsTrue (is_over m p)
over_more n m le (In x y) o = let b = both_over n x y o in let l = b.0 in let k = b.1 in pair_over m x y (omega (arith, l, le)) (omega (arith, k, le))
over_more n m le (Up x y) o = let b = both_over n x y o in let l = b.0 in let k = b.1 in pair_over m x y (omega (arith, l, le)) (omega (arith, k, le))
over_more n m le (Trad x) o = let l = ltb-true x n o in lt-ltb x m (omega (arith, l, le))
over_more n m le (NonNull x) o = let l = ltb-true x n o in lt-ltb x m (omega (arith, l, le))
