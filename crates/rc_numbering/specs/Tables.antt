-- Tables. A table has each thing once, in the order in which the things are first seen, and a thing's number is its place in the table.
use Rattle.std.specs.Prelude.{◌<◌, Bool, true, false, nat_lt, List, [], ◌∷◌, ◌++◌, length}
use Rattle.rc_emission.specs.KeptOperands.{place_in}

module _ {A : Type 0} (equal : A → A → Bool) where
  abbrev pub has : List A → A → Bool
  has table a = nat_lt (place_in equal table a) (length table)

  abbrev pub IsIn : List A → A → Type 0
  IsIn table a = place_in equal table a < length table

  abbrev pub with_new : (there : Bool) → List A → A → List A
  with_new true table a = table
  with_new false table a = table ++ a ∷ []

  -- behind what the table has
  abbrev pub seen_behind : List A → List A → List A
  seen_behind table [] = table
  seen_behind table (a ∷ more) = seen_behind (with_new (has table a) table a) more

  abbrev pub table_of : List A → List A
  table_of things = seen_behind [] things
