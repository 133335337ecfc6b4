-- Names with what they stand for, the innermost first.
use Rattle.std.specs.Prelude.{ℕ, List, [], ◌∷◌, Option, Some, None, reverse, slice_get, if◌then◌else◌}
use Rattle.std.specs.Str.{bytes_eq}

-- what a name stands for: the innermost entry decides
abbrev pub meaning_of : {T : Type 0} → List (List ℕ × T) → List ℕ → Option T
meaning_of [] name = None
meaning_of (known ∷ rest) name = if bytes_eq known.0 name then Some known.1 else meaning_of rest name

-- the one at a place of a stack, counted from the bottom
abbrev pub from_below : {T : Type 0} → List T → ℕ → Option T
from_below items place = slice_get (reverse items) place
