-- Numbers of the language: the values of an `int`, and the byte that `putchar` writes.
use Rattle.std.specs.Prelude.{◌<◌, ℕ, ℤ, pos, negsuc, Bool, nat_lt, unsigned_abs}
use Rattle.std.specs.Int.{int_rem_euclid}

-- from -2147483648 to 2147483647
abbrev pub fits_int : ℤ → Bool
fits_int (pos n) = nat_lt n 2147483648
fits_int (negsuc n) = nat_lt n 2147483648

abbrev pub IsByte : ℕ → Type 0
IsByte b = b < 256

-- a value modulo 256
abbrev pub byte_of : ℤ → ℕ
byte_of z = unsigned_abs (int_rem_euclid z (pos 256))
