-- Integer constants (ISO C 6.4.4.1): what their digits come to, and which type they have.
use Rattle.std.specs.Prelude.{ℕ, ◌≡◌, ◌≤◌, ◌+◌, ◌*◌, ◌-◌, List, [], ◌∷◌, ◌++◌, fold, length, Option, Some, None, Bool, true, false, ◌||◌, ◌==◌, nat_le, if◌then◌else◌}
use Rattle.rc_syntax.specs.Bytes.{is_decimal, is_octal, is_hexadecimal, Each}
use Rattle.rc_syntax.specs.Tokens.{Word, number}

-- of `0` to `9`, `a` to `f` and `A` to `F`
abbrev pub digit_value : ℕ → ℕ
digit_value b = if is_decimal b then b - 48 else (if nat_le 97 b then b - 87 else b - 55)

-- the most significant digit first
abbrev pub value_in : ℕ → List ℕ → ℕ
value_in base digits = fold (λ value b. value * base + digit_value b) 0 digits

-- a numeral without its suffix, in base 10, 8 or 16; `0` alone is octal
pub data Numeral (bytes : List ℕ) (base value : ℕ) : Type 0 where
  decimal : (first : ℕ) (others : List ℕ) → bytes ≡ first ∷ others → first == 48 ≡ false → Each is_decimal bytes →
      base ≡ 10 → value ≡ value_in 10 bytes → Numeral bytes base value
  octal : (digits : List ℕ) → bytes ≡ 48 ∷ digits → Each is_octal digits → base ≡ 8 → value ≡ value_in 8 digits → Numeral bytes base value
  hexadecimal : (x : ℕ) (digits : List ℕ) → bytes ≡ 48 ∷ x ∷ digits → (x == 120 || x == 88) ≡ true → 1 ≤ length digits →
      Each is_hexadecimal digits → base ≡ 16 → value ≡ value_in 16 digits → Numeral bytes base value

abbrev pub is_suffix : ℕ → Bool
is_suffix b = b == 117 || b == 85

-- whether a number is unsigned, by its base, its value and whether it has a suffix; none where no type holds it
abbrev pub number_type : ℕ → ℕ → Bool → Option Bool
number_type base value suffixed =
    if nat_le value 4294967295 then
    (if suffixed then Some true else (if nat_le value 2147483647 then Some false else (if base == 10 then None else Some true)))
    else None

-- the bytes are a number, and the word is its value with its type
pub data Number (bytes : List ℕ) (word : Word) : Type 0 where
  unsuffixed : (base value : ℕ) (unsigned : Bool) → Numeral bytes base value → number_type base value false ≡ Some unsigned →
      word ≡ number value unsigned → Number bytes word
  suffixed : (digits : List ℕ) (suffix base value : ℕ) (unsigned : Bool) → bytes ≡ digits ++ suffix ∷ [] → is_suffix suffix ≡ true →
      Numeral digits base value → number_type base value true ≡ Some unsigned → word ≡ number value unsigned → Number bytes word
