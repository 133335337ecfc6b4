-- Numbers that an instruction gives are in the range of their kind.
use Rattle.std.proofs.Common.{ℤ, pos, negsuc, Bool, true, false, List, []}
use Rattle.std.specs.Prelude.{IsTrue, Result, Ok, Err, if◌then◌else◌}
use Rattle.rc_base.specs.declared.ends.Trap.{Trap}
use Rattle.rc_core.specs.declared.ty.NumberType.TheVariants.{Int, Char}
use Rattle.rc_core.specs.declared.ty.Signedness.{Signedness}
use Rattle.rc_core.specs.declared.ty.Signedness.TheVariants.{Signed, Unsigned as Wrapping}
use Rattle.rc_core.specs.Arithmetic.{converted, type_of}
use Rattle.rc_core.specs.Heap.{Value, Number}
use Rattle.rc_core.specs.Evaluation.{number_in}
use Rattle.rc_core.specs.Typing.{fits, is_comparison, result_if}
use Rattle.rc_kinds.specs.Suits.{Suits}
use Rattle.rc_kinds.proofs.InRange.{less_is, byte_fits, converted_fits, calculated_suits, calculated_one_suits, IfOk}
use Rattle.rc_code.specs.Running.{Operation, two, one, outcome, value_at}
use Rattle.rc_code.proofs.Kinding.{result_sign}

-- a byte is an int
pub byte_is_int : (z : ℤ) → IsTrue (fits Int (converted Char z))
byte_is_int z = wide (converted Char z) (converted_fits Char z)
  where
    wide : (x : ℤ) → IsTrue (fits Char x) → IsTrue (fits Int x)
    wide (pos n) e = byte_fits n (less_is n 256 e)
    wide (negsuc n) e = cc

-- the operand whose range decides that of the result
abbrev pub first_operand : Operation → List Value → Value
first_operand (two op) st = value_at st 1
first_operand (one op) st = value_at st 0

ok_more : {A : Type 0} (P Q : A → Type 0) (r : Result A Trap) → ((x : A) → P x → Q x) → IfOk P r → IfOk Q r
ok_more P Q (Ok x) k h = k x h
ok_more P Q (Err t) k h = tt

in_sign : (comparison : Bool) (s : Signedness) (n : ℤ) → Suits [] (result_if comparison s) (Number n) → IsTrue (fits (type_of (if comparison then Signed else s)) n)
in_sign true s n h = h
in_sign false Signed n h = h
in_sign false Wrapping n h = h

pub outcome_fits : (o : Operation) (s : Signedness) (st : List Value) → IsTrue (fits (type_of s) (number_in (first_operand o st))) → IfOk (λ n. IsTrue (fits (type_of (result_sign o s)) n)) (outcome o s st)
outcome_fits (two op) s st h = ok_more _ _ (outcome (two op) s st) (in_sign (is_comparison op) s) (calculated_suits [] op s (number_in (value_at st 1)) (number_in (value_at st 0)) h)
outcome_fits (one op) s st h = ok_more _ _ (outcome (one op) s st) (in_sign false s) (calculated_one_suits [] op s (number_in (value_at st 0)) h)
