-- The columns of links: which have a place for a slot.
use Rattle.std.specs.Prelude.{◌≤◌, ◌^◌, ℕ, List, [], length, slice_index_or}

-- each column that a slot so deep needs has places for so many slots
abbrev pub Reach : List (List ℕ) → (slots depth : ℕ) → Type 0
Reach ways slots depth = (k : ℕ) → 2 ^ k ≤ depth → slots ≤ length (slice_index_or ways k [])

-- no column lost a place
abbrev pub NoneShorter : (old new : List (List ℕ)) → Type 0
NoneShorter old new = (k : ℕ) → length (slice_index_or old k []) ≤ length (slice_index_or new k [])
