-- The results of arithmetic are in range.
use Rattle.std.specs.Prelude.{◌≡◌, ℕ, ℤ, pos, negsuc, ◌+ℤ◌, ◌-ℤ◌, ◌*ℤ◌, neg_ℤ, zero, suc, ◌-◌, ◌^◌, ◌/◌, ◌%◌, ◌≤◌, ◌<◌, Bool, true, false, not, IsTrue, nat_lt, int_lt, int_le, int_rem, int_div, unsigned_abs, if◌then◌else◌, Result, Ok, Err}
use Rattle.std.proofs.Common.{refl, sym, ap, ◌∙◌, subst, arith}
use Rattle.std.proofs.lemmas.Bool.Decides.{nat_tests}
use Rattle.std.proofs.Math.Nat.{mod-lt, mod-le, mod-eq_of_lt, div-le_self}
use Rattle.std.specs.Int.{int_rem_euclid, int_div_euclid}
use Rattle.rc_base.specs.declared.ends.Trap.{Trap}
use Rattle.rc_base.specs.declared.ends.Trap.TheVariants.{Zero, Overflow, Shift}
use Rattle.rc_core.specs.declared.ty.NumberType.{NumberType}
use Rattle.rc_core.specs.declared.ty.NumberType.TheVariants.{Int, Unsigned, Char}
use Rattle.rc_core.specs.declared.ty.Signedness.{Signedness}
use Rattle.rc_core.specs.declared.ty.Signedness.TheVariants.{Signed, Unsigned as Wrapping}
use Rattle.rc_core.specs.declared.operators.UnaryOperator.{UnaryOperator}
use Rattle.rc_core.specs.declared.operators.UnaryOperator.TheVariants.{Negate, Plus, Complement}
use Rattle.rc_core.specs.declared.operators.Operator.{Operator}
use Rattle.rc_core.specs.declared.operators.Operator.TheVariants.{Multiply, Divide, Remainder, Add, Subtract, ShiftLeft, ShiftRight, Less, Greater, LessEqual, GreaterEqual, Equal, NotEqual, And, Xor, Or}
use Rattle.rc_core.specs.Numbers.{fits_int, byte_of}
use Rattle.rc_core.specs.Arithmetic.{wrapped, as_int, converted, type_of, fitted, equals, truth, if_fits, quotient, remainder, shift_fits, power, shifted_left, shifted_right, calculate, calculate_one}
use Rattle.rc_core.specs.Types.{int}
use Rattle.rc_core.specs.Heap.{Value, Number}
use Rattle.rc_core.specs.Evaluation.{as_wanted}
use Rattle.rc_core.specs.Typing.{fits, number, arithmetic, result_type}
use Rattle.rc_kinds.specs.Suits.{Ledger, IsNumber, Suits}

modulo : (z : ℤ) (n : ℕ) → 0 < n → (w : ℕ) × (int_rem_euclid z (pos n) ≡ pos w) × (w < n)
modulo (pos a) n h = (a % n, refl, mod-lt a h)
modulo (negsuc a) n h = (n - 1 - a % n, refl, omega (arith, mod-lt a h))

pub is_less : (m n : ℕ) → m < n → nat_lt m n ≡ true
is_less m n h = grind (arith, nat_tests)

pub less_is : (m n : ℕ) → nat_lt m n ≡ true → m < n
less_is m n h = grind (arith, nat_tests)

pub not_less : (m n : ℕ) → nat_lt m n ≡ false → n ≤ m
not_less m n h = grind (arith, nat_tests)

pub below_zero : (w : ℕ) → 2147483648 ≤ w → w < 4294967296 → (pos w -ℤ pos 4294967296) ≡ negsuc (4294967296 - suc w)
below_zero w h k = rw (is_less w 4294967296 k) refl

small_int : (w : ℕ) → 2147483648 ≤ w → w < 4294967296 → fits_int (negsuc (4294967296 - suc w)) ≡ true
small_int w h k = is_less (4294967296 - suc w) 2147483648 (omega (arith, h, k))

int_of : (w : ℕ) (b : Bool) → w < 4294967296 → fits_int (pos w) ≡ b → fits_int (if b then pos w else pos w -ℤ pos 4294967296) ≡ true
int_of w true h e = e
int_of w false h e = let l = not_less w 2147483648 e in ap fits_int (below_zero w l h) ∙ small_int w l h

int_fits : (z : ℤ) → fits_int (as_int z) ≡ true
int_fits z =
    let r = modulo z 4294967296 (is_positive 4294967295) in
    subst (λ x. fits_int (if fits_int x then x else x -ℤ pos 4294967296) ≡ true) (sym r.1) (int_of r.0 (fits_int (pos r.0)) r.2 refl)
  where
    is_positive : (n : ℕ) → 0 < suc n
    is_positive n = omega arith

pub converted_fits : (k : NumberType) (z : ℤ) → IsTrue (fits k (converted k z))
converted_fits Int z = int_fits z
converted_fits Unsigned z = let r = modulo z 4294967296 (omega arith) in subst (λ x. fits Unsigned x ≡ true) (sym r.1) (is_less r.0 4294967296 r.2)
converted_fits Char z = let r = modulo z 256 (omega arith) in subst (λ x. fits Char x ≡ true) (sym r.1) (is_less r.0 256 r.2)

-- what a result is, if there is one
abbrev pub IfOk : {A : Type 0} → (A → Type 0) → Result A Trap → Type 0
IfOk P (Ok x) = P x
IfOk P (Err t) = Unit {0}

abbrev pub InRange : NumberType → ℤ → Type 0
InRange k z = IsTrue (fits k z)

pub fitted_fits : (s : Signedness) (z : ℤ) → IfOk (InRange (type_of s)) (fitted s z)
fitted_fits Signed z = by (fits_int z) refl
  where
    by : (b : Bool) → fits_int z ≡ b → IfOk (InRange Int) (if b then Ok z else Err Overflow)
    by true e = e
    by false e = tt
fitted_fits Wrapping z = converted_fits Unsigned z

pub truth_fits : (b : Bool) → InRange Int (truth b)
truth_fits true = refl
truth_fits false = refl

quotient_fits : (s : Signedness) (a b : ℤ) → IfOk (InRange (type_of s)) (quotient s a b)
quotient_fits s a b = by (equals b (pos 0))
  where
    by : (c : Bool) → IfOk (InRange (type_of s)) (if c then Err Zero else fitted s (int_div a b))
    by true = tt
    by false = fitted_fits s (int_div a b)

more_ok : {A : Type 0} (P Q : A → Type 0) (r : Result A Trap) → ((x : A) → P x → Q x) → IfOk P r → IfOk Q r
more_ok P Q (Ok x) k h = k x h
more_ok P Q (Err t) k h = tt

negative_fits : (m : ℕ) → m ≤ 2147483648 → fits_int (neg_ℤ (pos m)) ≡ true
negative_fits zero h = refl
negative_fits (suc m) h = is_less m 2147483648 (omega (arith, h))

-- a remainder is no further from zero than what was divided, and on the same side
rem_fits : (s : Signedness) (a b : ℤ) → InRange (type_of s) a → InRange (type_of s) (int_rem a b)
rem_fits Signed (pos a) b h = is_less (a % unsigned_abs b) 2147483648 (omega (arith, mod-le a (unsigned_abs b), less_is a 2147483648 h))
rem_fits Signed (negsuc a) b h = negative_fits (suc a % unsigned_abs b) (omega (arith, mod-le (suc a) (unsigned_abs b), less_is a 2147483648 h))
rem_fits Wrapping (pos a) b h = is_less (a % unsigned_abs b) 4294967296 (omega (arith, mod-le a (unsigned_abs b), less_is a 4294967296 h))
rem_fits Wrapping (negsuc a) b h = cc

remainder_fits : (s : Signedness) (a b : ℤ) → InRange (type_of s) a → IfOk (InRange (type_of s)) (remainder s a b)
remainder_fits s a b h = by (quotient s a b)
  where
    by : (r : Result ℤ Trap) → IfOk (InRange (type_of s)) (if_fits r (int_rem a b))
    by (Ok z) = rem_fits s a b h
    by (Err t) = tt

left_fits : (s : Signedness) (a k : ℤ) → IfOk (InRange (type_of s)) (shifted_left s a k)
left_fits s a k = by (shift_fits k)
  where
    by : (c : Bool) → IfOk (InRange (type_of s)) (if c then fitted s (a *ℤ power k) else Err Shift)
    by true = fitted_fits s (a *ℤ power k)
    by false = tt

floor_fits : (s : Signedness) (a : ℤ) (d : ℕ) → InRange (type_of s) a → InRange (type_of s) (int_div_euclid a (pos d))
floor_fits Signed (pos a) d h = is_less (a / d) 2147483648 (omega (arith, div-le_self a d, less_is a 2147483648 h))
floor_fits Signed (negsuc a) d h = is_less (a / d) 2147483648 (omega (arith, div-le_self a d, less_is a 2147483648 h))
floor_fits Wrapping (pos a) d h = is_less (a / d) 4294967296 (omega (arith, div-le_self a d, less_is a 4294967296 h))
floor_fits Wrapping (negsuc a) d h = cc

right_fits : (s : Signedness) (a k : ℤ) → InRange (type_of s) a → IfOk (InRange (type_of s)) (shifted_right a k)
right_fits s a k h = by (shift_fits k)
  where
    by : (c : Bool) → IfOk (InRange (type_of s)) (if c then Ok (int_div_euclid a (power k)) else Err Shift)
    by true = floor_fits s a (2 ^ unsigned_abs k) h
    by false = tt

module _ (ledger : Ledger) where
  pub number_suits : (k : NumberType) (n : ℤ) → InRange k n → Suits ledger (number k) (Number n)
  number_suits Int n h = h
  number_suits Unsigned n h = h
  number_suits Char n h = h

  -- a value of a type of numbers is a number in its range
  pub suits_number : (k : NumberType) (v : Value) → Suits ledger (number k) v → IsNumber k v
  suits_number Int v h = h
  suits_number Unsigned v h = h
  suits_number Char v h = h

  arithmetic_ok : (s : Signedness) (r : Result ℤ Trap) → IfOk (InRange (type_of s)) r → IfOk (λ n. Suits ledger (arithmetic s) (Number n)) r
  arithmetic_ok s r h = more_ok (InRange (type_of s)) (λ n. Suits ledger (arithmetic s) (Number n)) r (number_suits (type_of s)) h

  pub calculated_suits : (op : Operator) (s : Signedness) (a b : ℤ) → InRange (type_of s) a → IfOk (λ n. Suits ledger (result_type op s) (Number n)) (calculate op s a b)
  calculated_suits Multiply s a b h = arithmetic_ok s _ (fitted_fits s (a *ℤ b))
  calculated_suits Divide s a b h = arithmetic_ok s _ (quotient_fits s a b)
  calculated_suits Remainder s a b h = arithmetic_ok s _ (remainder_fits s a b h)
  calculated_suits Add s a b h = arithmetic_ok s _ (fitted_fits s (a +ℤ b))
  calculated_suits Subtract s a b h = arithmetic_ok s _ (fitted_fits s (a -ℤ b))
  calculated_suits ShiftLeft s a b h = arithmetic_ok s _ (left_fits s a b)
  calculated_suits ShiftRight s a b h = arithmetic_ok s _ (right_fits s a b h)
  calculated_suits Less s a b h = truth_fits (int_lt a b)
  calculated_suits Greater s a b h = truth_fits (int_lt b a)
  calculated_suits LessEqual s a b h = truth_fits (int_le a b)
  calculated_suits GreaterEqual s a b h = truth_fits (int_le b a)
  calculated_suits Equal s a b h = truth_fits (equals a b)
  calculated_suits NotEqual s a b h = truth_fits (not (equals a b))
  calculated_suits And s a b h = number_suits (type_of s) _ (converted_fits (type_of s) _)
  calculated_suits Xor s a b h = number_suits (type_of s) _ (converted_fits (type_of s) _)
  calculated_suits Or s a b h = number_suits (type_of s) _ (converted_fits (type_of s) _)

  pub calculated_one_suits : (op : UnaryOperator) (s : Signedness) (a : ℤ) → InRange (type_of s) a → IfOk (λ n. Suits ledger (arithmetic s) (Number n)) (calculate_one op s a)
  calculated_one_suits Negate s a h = arithmetic_ok s _ (fitted_fits s (neg_ℤ a))
  calculated_one_suits Plus s a h = number_suits (type_of s) a h
  calculated_one_suits Complement s a h = arithmetic_ok s _ (fitted_fits s (neg_ℤ a -ℤ pos 1))

  pub wanted_suits : (wanted is : Bool) → Suits ledger int (as_wanted wanted is)
  wanted_suits true is = truth_fits is
  wanted_suits false is = truth_fits (not is)

-- a byte is an int
pub byte_fits : (b : ℕ) → b < 256 → InRange Int (pos b)
byte_fits b h = is_less b 2147483648 (omega (arith, h))

pub byte_of_fits : (z : ℤ) → InRange Int (pos (byte_of z))
byte_of_fits z = let r = modulo z 256 (omega arith) in byte_fits (byte_of z) (subst (λ x. unsigned_abs x < 256) (sym r.1) r.2)

wrapped_same : (k : ℕ) → k < 4294967296 → wrapped (pos k) ≡ pos k
wrapped_same k h = ap pos (mod-eq_of_lt h)

pub as_int_small : (k : ℕ) → nat_lt k 2147483648 ≡ true → as_int (pos k) ≡ pos k
as_int_small k h =
    let l = less_is k 2147483648 h in
    let q = wrapped_same k (omega (arith, l)) in
    subst (λ z. (if fits_int z then z else z -ℤ pos 4294967296) ≡ pos k) (sym q) (ap (λ b. if b then pos k else pos k -ℤ pos 4294967296) h)

pub as_int_big : (k : ℕ) → nat_lt k 2147483648 ≡ false → k < 4294967296 → as_int (pos k) ≡ negsuc (4294967296 - suc k)
as_int_big k h l =
    subst (λ z. (if fits_int z then z else z -ℤ pos 4294967296) ≡ negsuc (4294967296 - suc k)) (sym (wrapped_same k l))
    (ap (λ b. if b then pos k else pos k -ℤ pos 4294967296) h ∙ below_zero k (not_less k 2147483648 h) l)

as_int_negative : (k : ℕ) → nat_lt k 2147483648 ≡ true → as_int (negsuc k) ≡ negsuc k
as_int_negative k h =
    let l = less_is k 2147483648 h in
    let small : k < 4294967296 = omega (arith, l) in
    let m : ℕ = 4294967296 - 1 - k in
    let big : 2147483648 ≤ m = omega (arith, l) in
    let below : m < 4294967296 = omega (arith, l) in
    let not_int : nat_lt m 2147483648 ≡ false = grind (arith, nat_tests) in
    let same : wrapped (negsuc k) ≡ pos m = ap (λ r. pos (4294967296 - 1 - r)) (mod-eq_of_lt small) in
    let back : 4294967296 - suc m ≡ k = omega (arith, l) in
    subst (λ z. (if fits_int z then z else z -ℤ pos 4294967296) ≡ negsuc k) (sym same)
    (ap (λ b. if b then pos m else pos m -ℤ pos 4294967296) not_int ∙ below_zero m big below ∙ ap negsuc back)

pub as_int_same : (z : ℤ) → fits_int z ≡ true → as_int z ≡ z
as_int_same (pos k) h = as_int_small k h
as_int_same (negsuc k) h = as_int_negative k h
