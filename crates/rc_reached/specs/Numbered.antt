-- Rows of numbers, a number a cell.
use Rattle.std.specs.Prelude.{◌≡◌, ℕ, suc, Bool, true, false, ◌==◌, List, slice_get, Option, Some, None}
use Rattle.rc_code.specs.declared.kind.Cell.{Cell}
use Rattle.rc_reached.specs.Walks.{is_there}
use Rattle.rc_reached.specs.declared.numbered.Numbered.{Numbered}

-- whether it is that number
abbrev pub is_number : (number : ℕ) → Option ℕ → Bool
is_number number None = false
is_number number (Some there) = there == number

-- whether at that place there is that number
abbrev pub is_numbered : (number : ℕ) → List ℕ → (place : ℕ) → Bool
is_numbered number numbers place = is_number number (slice_get numbers place)

-- cells that have a number from 1 on are as the first that has it
abbrev pub AreNumbered : List Cell → (firsts : List Cell) → (numbers : List ℕ) → Type 0
AreNumbered cells firsts numbers = (place k : ℕ) (c : Cell) → is_numbered (suc k) numbers place ≡ true → slice_get firsts k ≡ Some c → is_there c cells place ≡ true

-- in this row
abbrev pub IsNumbered : List Cell → Numbered → Type 0
IsNumbered cells row = AreNumbered cells row.firsts.items row.numbers.items
