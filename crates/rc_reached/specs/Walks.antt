-- Going over the places that a path's indices lead to.
use Rattle.std.specs.Prelude.{◌≡◌, ℕ, zero, suc, ◌+◌, Bool, true, false, ◌&&◌, nat_lt, List, [], ◌∷◌, length, slice_get, Option, Some, None}
use Rattle.std.specs.List.{AllByRecursion as Every}
use Rattle.rc_code.specs.declared.kind.Cell.{Cell}
use Rattle.rc_code.specs.declared.image.Index.{Index}
use Rattle.rc_code.specs.Image.{IndexFits, is_nested}
use Rattle.rc_code.specs.Reached.{span}
use Rattle.rc_code.specs.Kinds.{same_cell}

-- whether it holds at so many places from one on, each a stride further
abbrev pub at_each : (holds : ℕ → Bool) → (count stride place : ℕ) → Bool
at_each holds zero stride place = true
at_each holds (suc n) stride place = holds place && at_each holds n stride (stride + place)

-- whether it holds at all places that the indices lead to from one
abbrev pub at_all : (holds : ℕ → Bool) → List Index → (place : ℕ) → Bool
at_all holds [] place = holds place
at_all holds (i ∷ is) place = at_each (at_all holds is) i.length i.stride place

-- both lead to the same places
abbrev pub IsWalkedAs : List Index → List Index → Type 0
IsWalkedAs is js = (holds : ℕ → Bool) (place : ℕ) → at_all holds is place ≡ at_all holds js place

-- whether there is a cell, and it is as this one
abbrev pub is_cell : Cell → Option Cell → Bool
is_cell cell None = false
is_cell cell (Some c) = same_cell c cell

-- whether at that place there is a cell as this one
abbrev pub is_there : Cell → List Cell → (place : ℕ) → Bool
is_there cell cells place = is_cell cell (slice_get cells place)

-- the indices keep their bounds, are nested, and what they reach is among the cells
pub record AreFit (indices : List Index) (from : List Cell) : Type 0 where
  pub each : Every IndexFits indices
  pub nested : is_nested indices ≡ true
  pub inside : nat_lt (span indices) (length from) ≡ true
