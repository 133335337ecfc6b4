-- Character constants and string literals (ISO C 6.4.4.4 and 6.4.5): which bytes write which values.
use Rattle.std.specs.Prelude.{ℕ, ◌≡◌, ◌≤◌, List, [], ◌∷◌, ◌++◌, length, Option, Some, None, Bool, true, false, not, ◌||◌, ◌==◌, ◌⊎◌, if◌then◌else◌}
use Rattle.rc_syntax.specs.Bytes.{is_octal, is_hexadecimal, Each, begins}
use Rattle.rc_syntax.specs.Numerals.{value_in}

-- a byte that stands for itself: no line feed, no `\` and not the quote
abbrev pub is_plain : ℕ → ℕ → Bool
is_plain quote b = not ((b == 10) || ((b == 92) || (b == quote)))

-- what a letter or a mark behind a `\` stands for: \a \b \f \n \r \t \v \\ \' \" \?
abbrev pub simple_escape : ℕ → Option ℕ
simple_escape b =
    if b == 97 then Some 7 else (if b == 98 then Some 8 else (if b == 102 then Some 12 else (if b == 110 then Some 10 else (if b == 114 then Some 13 else (if b == 116 then Some 9 else (if b == 118 then Some 11 else
    (if b == 92 then Some 92 else (if b == 39 then Some 39 else (if b == 34 then Some 34 else (if b == 63 then Some 63 else None))))))))))

-- between these quotes, before these further bytes, the bytes write the value
pub data Writes (quote : ℕ) (bytes further : List ℕ) (value : ℕ) : Type 0 where
  plain : bytes ≡ value ∷ [] → is_plain quote value ≡ true → Writes quote bytes further value
  simple : (letter : ℕ) → bytes ≡ 92 ∷ letter ∷ [] → simple_escape letter ≡ Some value → Writes quote bytes further value
  octal : (digits : List ℕ) → bytes ≡ 92 ∷ digits → Each is_octal digits → 1 ≤ length digits → length digits ≤ 3 →
      (length digits ≡ 3) ⊎ (begins is_octal further ≡ false) → value ≡ value_in 8 digits → value ≤ 255 → Writes quote bytes further value
  hexadecimal : (digits : List ℕ) → bytes ≡ 92 ∷ 120 ∷ digits → Each is_hexadecimal digits → 1 ≤ length digits → length digits ≤ 2 →
      begins is_hexadecimal further ≡ false → value ≡ value_in 16 digits → Writes quote bytes further value

-- the bytes between two quotes write these values, one after another
abbrev pub WritesAll : ℕ → List ℕ → List ℕ → Type 0
WritesAll quote bytes [] = bytes ≡ []
WritesAll quote bytes (value ∷ values) = (first further : List ℕ) × (bytes ≡ first ++ further) × Writes quote first further value × WritesAll quote further values
