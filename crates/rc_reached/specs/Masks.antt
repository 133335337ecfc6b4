-- Rows of bits, a bit a place, 64 in a word.
use Rattle.std.specs.Prelude.{◌≡◌, ℕ, ◌/◌, ◌%◌, Bool, true, ◌==◌, List, get_or, slice_get, Some}
use Rattle.std.specs.Int.{bit_at}
use Rattle.rc_code.specs.declared.kind.Cell.{Cell}
use Rattle.rc_reached.specs.Walks.{is_there}

-- whether the bit of that number is 1
abbrev pub is_set : (word place : ℕ) → Bool
is_set word place = bit_at word place == 1

-- whether the words mark a place
unfoldable pub marks : (words : List ℕ) → (place : ℕ) → Bool
marks words place = is_set (get_or words (place / 64) 0) (place % 64)

-- what the words mark are cells that are as this one
abbrev pub IsMask : Cell → List Cell → (words : List ℕ) → Type 0
IsMask cell cells words = (place : ℕ) → marks words place ≡ true → is_there cell cells place ≡ true

-- what they mark are cells that are as the one at that place
abbrev pub IsMaskOf : List Cell → (place : ℕ) → (words : List ℕ) → Type 0
IsMaskOf cells place words = (c : Cell) → slice_get cells place ≡ Some c → IsMask c cells words
