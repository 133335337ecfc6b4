-- Arithmetic (ISO C 6.3.1 and 6.5): each result is exact, and then what the type makes of it. On `int` a result that doesn't
-- fit is an overflow, on `unsigned` it wraps.
use Rattle.std.specs.Prelude.{ℕ, ℤ, pos, ◌+ℤ◌, ◌-ℤ◌, ◌*ℤ◌, neg_ℤ, ◌^◌, Bool, true, false, not, ◌&&◌, int_lt, int_le, int_div, int_rem, unsigned_abs, bit_and, bit_or, bit_xor, if◌then◌else◌, Result, Ok, Err}
use Rattle.std.specs.Int.{int_div_euclid, int_rem_euclid}
use Rattle.rc_base.specs.declared.ends.Trap.{Trap}
use Rattle.rc_base.specs.declared.ends.Trap.TheVariants.{Zero, Overflow, Shift}
use Rattle.rc_core.specs.Numbers.{fits_int}
use Rattle.rc_core.specs.declared.ty.NumberType.{NumberType}
use Rattle.rc_core.specs.declared.ty.NumberType.TheVariants.{Int, Unsigned, Char}
use Rattle.rc_core.specs.declared.ty.Signedness.{Signedness}
use Rattle.rc_core.specs.declared.ty.Signedness.TheVariants.{Signed, Unsigned as Wrapping}
use Rattle.rc_core.specs.declared.operators.UnaryOperator.{UnaryOperator}
use Rattle.rc_core.specs.declared.operators.UnaryOperator.TheVariants.{Negate, Plus, Complement}
use Rattle.rc_core.specs.declared.operators.Operator.{Operator}
use Rattle.rc_core.specs.declared.operators.Operator.TheVariants.{Multiply, Divide, Remainder, Add, Subtract, ShiftLeft, ShiftRight, Less, Greater, LessEqual, GreaterEqual, Equal, NotEqual, And, Xor, Or}

-- modulo 2 to the power 32, from 0
abbrev pub wrapped : ℤ → ℤ
wrapped z = int_rem_euclid z (pos 4294967296)

-- the `int` with the same 32 bits of two's complement
abbrev pub as_int : ℤ → ℤ
as_int z = if fits_int (wrapped z) then wrapped z else wrapped z -ℤ pos 4294967296

-- a conversion takes the value modulo 2 to the power 32 or 8, and never traps
abbrev pub converted : NumberType → ℤ → ℤ
converted Int z = as_int z
converted Unsigned z = wrapped z
converted Char z = int_rem_euclid z (pos 256)

abbrev pub type_of : Signedness → NumberType
type_of Signed = Int
type_of Wrapping = Unsigned

-- an exact result
abbrev pub fitted : Signedness → ℤ → Result ℤ Trap
fitted Signed z = if fits_int z then Ok z else Err Overflow
fitted Wrapping z = Ok (wrapped z)

abbrev pub equals : ℤ → ℤ → Bool
equals a b = int_le a b && int_le b a

abbrev pub truth : Bool → ℤ
truth true = pos 1
truth false = pos 0

abbrev pub if_fits : Result ℤ Trap → ℤ → Result ℤ Trap
if_fits (Ok z) r = Ok r
if_fits (Err t) r = Err t

-- the quotient is truncated toward zero, and a remainder is one only where the quotient fits
abbrev pub quotient : Signedness → ℤ → ℤ → Result ℤ Trap
quotient s a b = if equals b (pos 0) then Err Zero else fitted s (int_div a b)

abbrev pub remainder : Signedness → ℤ → ℤ → Result ℤ Trap
remainder s a b = if_fits (quotient s a b) (int_rem a b)

abbrev pub shift_fits : ℤ → Bool
shift_fits k = int_le (pos 0) k && int_le k (pos 31)

abbrev pub power : ℤ → ℤ
power k = pos (2 ^ unsigned_abs k)

abbrev pub shifted_left : Signedness → ℤ → ℤ → Result ℤ Trap
shifted_left s a k = if shift_fits k then fitted s (a *ℤ power k) else Err Shift

-- the floor of the quotient
abbrev pub shifted_right : ℤ → ℤ → Result ℤ Trap
shifted_right a k = if shift_fits k then Ok (int_div_euclid a (power k)) else Err Shift

-- the 32 bits of a value, and the value of 32 bits
abbrev pub bits_of : ℤ → ℕ
bits_of z = unsigned_abs (wrapped z)

abbrev pub of_bits : Signedness → ℕ → ℤ
of_bits s n = converted (type_of s) (pos n)

abbrev pub calculate : Operator → Signedness → ℤ → ℤ → Result ℤ Trap
calculate Multiply s a b = fitted s (a *ℤ b)
calculate Divide s a b = quotient s a b
calculate Remainder s a b = remainder s a b
calculate Add s a b = fitted s (a +ℤ b)
calculate Subtract s a b = fitted s (a -ℤ b)
calculate ShiftLeft s a b = shifted_left s a b
calculate ShiftRight s a b = shifted_right a b
calculate Less s a b = Ok (truth (int_lt a b))
calculate Greater s a b = Ok (truth (int_lt b a))
calculate LessEqual s a b = Ok (truth (int_le a b))
calculate GreaterEqual s a b = Ok (truth (int_le b a))
calculate Equal s a b = Ok (truth (equals a b))
calculate NotEqual s a b = Ok (truth (not (equals a b)))
calculate And s a b = Ok (of_bits s (bit_and (bits_of a) (bits_of b)))
calculate Xor s a b = Ok (of_bits s (bit_xor (bits_of a) (bits_of b)))
calculate Or s a b = Ok (of_bits s (bit_or (bits_of a) (bits_of b)))

-- in two's complement `~a` is one less than `-a`
abbrev pub calculate_one : UnaryOperator → Signedness → ℤ → Result ℤ Trap
calculate_one Negate s a = fitted s (neg_ℤ a)
calculate_one Plus s a = Ok a
calculate_one Complement s a = fitted s (neg_ℤ a -ℤ pos 1)
