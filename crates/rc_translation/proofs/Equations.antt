-- What region code needs of a value that suits its type.
use Rattle.std.specs.Prelude.{◌≡◌, ℕ, ℤ, pos, negsuc, ◌*ℤ◌, zero, suc, ◌≤◌, ◌<◌, Bool, true, false, not, ◌&&◌, nat_lt, nat_le, int_le, if◌then◌else◌, List, [], ◌∷◌, Ok, Err}
use Rattle.std.proofs.Common.{refl, sym, ap, ◌∙◌, arith, rules}
use Rattle.std.specs.Int.{int_div_euclid}
use Rattle.std.proofs.lemmas.Bool.Decides.{nat_tests}
use Rattle.std.proofs.Math.Nat.{mod-eq_of_lt}
use Rattle.rc_base.specs.declared.ends.Trap.TheVariants.{Shift}
use Rattle.rc_core.specs.declared.ty.Signedness.{Signedness}
use Rattle.rc_core.specs.declared.operators.Operator.{Operator}
use Rattle.rc_core.specs.declared.operators.Operator.TheVariants.{ShiftLeft, ShiftRight}
use Rattle.rc_core.specs.Arithmetic.{as_int, equals, calculate, shift_fits, power, fitted}
use Rattle.rc_core.specs.Types.{Ty, int, unsigned, char, region, struct, pointer}
use Rattle.rc_core.specs.Heap.{Value, Number, Null, Handle, Pointer}
use Rattle.rc_core.specs.Evaluation.{is_true}
use Rattle.rc_core.specs.Typing.{is_shift, value_type}
use Rattle.rc_kinds.specs.Suits as K
use Rattle.rc_kinds.specs.Suits.{Ledger}
use Rattle.rc_kinds.proofs.InRange.{is_less, less_is, not_less, as_int_small, as_int_big, as_int_same}
use Rattle.rc_kinds.proofs.Grown.{value_suits}
use Rattle.rc_translation.proofs.ValueKinds.{Suits, AllSuit}

no_shift : (operator : Operator) (s : Signedness) (a j k : ℤ) → is_shift operator ≡ true → shift_fits j ≡ false → shift_fits k ≡ false → calculate operator s a j ≡ calculate operator s a k
no_shift ShiftLeft s a j k h p q = ap (λ b. if b then fitted s (a *ℤ power j) else Err Shift) p ∙ sym (ap (λ b. if b then fitted s (a *ℤ power k) else Err Shift) q)
no_shift ShiftRight s a j k h p q = ap (λ b. if b then Ok (int_div_euclid a (power j)) else Err Shift) p ∙ sym (ap (λ b. if b then Ok (int_div_euclid a (power k)) else Err Shift) q)
no_shift operator s a j k h p q = cc

too_far : (k : ℕ) → 2147483648 ≤ k → shift_fits (pos k) ≡ false
too_far k h = ap (λ b. int_le (pos 0) (pos k) && b) (let e : nat_le k 31 ≡ false = grind (arith, nat_tests) in e) ∙ by (int_le (pos 0) (pos k))
  where
    by : (b : Bool) → (b && false) ≡ false
    by true = refl
    by false = refl

not_zero : (k : ℕ) → 2147483648 ≤ k → is_true (Number (pos k)) ≡ true
not_zero zero h = absurd (omega (arith, h))
not_zero (suc k) h = search rules

module _ (k : ℕ) (l : k < 4294967296) where
  looked : (b : Bool) → nat_lt k 2147483648 ≡ b → not (equals (as_int (pos k)) (pos 0)) ≡ is_true (Number (pos k))
  looked true e = ap (λ z. not (equals z (pos 0))) (as_int_small k e)
  looked false e = ap (λ z. not (equals z (pos 0))) (as_int_big k e l) ∙ sym (not_zero k (not_less k 2147483648 e))

  counted : (b : Bool) → nat_lt k 2147483648 ≡ b → (operator : Operator) (s : Signedness) (a : ℤ) → is_shift operator ≡ true → calculate operator s a (as_int (pos k)) ≡ calculate operator s a (pos k)
  counted true e operator s a h = ap (calculate operator s a) (as_int_small k e)
  counted false e operator s a h = no_shift operator s a (as_int (pos k)) (pos k) h (ap shift_fits (as_int_big k e l)) (too_far k (not_less k 2147483648 e))

pub suits_so : (l : Ledger) (t : Ty) (v : Value) → K.Suits l t v → Suits t v
suits_so l int (Number n) s = (refl, as_int_same n s)
suits_so l int Null s = absurd s
suits_so l int (Handle r) s = absurd s
suits_so l int (Pointer a) s = absurd s
suits_so l unsigned (Number (pos k)) s = let b = less_is k 4294967296 s in (refl, looked k b (nat_lt k 2147483648) refl, counted k b (nat_lt k 2147483648) refl)
suits_so l unsigned (Number (negsuc k)) s = cc
suits_so l unsigned Null s = absurd s
suits_so l unsigned (Handle r) s = absurd s
suits_so l unsigned (Pointer a) s = absurd s
suits_so l char (Number (pos k)) s = let b = less_is k 256 s in (refl, ap pos (mod-eq_of_lt b), as_int_small k (is_less k 2147483648 (omega (arith, b))))
suits_so l char (Number (negsuc k)) s = cc
suits_so l char Null s = absurd s
suits_so l char (Handle r) s = absurd s
suits_so l char (Pointer a) s = absurd s
suits_so l region v s = tt
suits_so l (struct k) v s = tt
suits_so l (pointer note target) v s = tt

pub all_suit_so : (l : Ledger) (ts : List Ty) (vs : List Value) → K.AllSuit l ts vs → AllSuit ts vs
all_suit_so l [] [] all = tt
all_suit_so l [] (v ∷ vs) all = absurd all
all_suit_so l (t ∷ ts) [] all = absurd all
all_suit_so l (t ∷ ts) (v ∷ vs) all = (suits_so l (value_type t) v (value_suits l t v all.0), all_suit_so l ts vs all.1)
