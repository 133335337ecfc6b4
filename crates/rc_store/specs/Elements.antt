-- An element that is so far from a pointer's, in the object into which it points: whether there is one, and what a load and a store of a
-- cell of it come to. Both test first whether the region is live.
use Rattle.std.specs.Prelude.{◌≡◌, ◌+ℤ◌, ℕ, ℤ, pos, unsigned_abs, Bool, true, false, IsTrue, Result, Ok, Err}
use Rattle.rc_core.specs.Heap.{Value}
use Rattle.rc_core.specs.Source.{is_index}
use Rattle.rc_store.specs.declared.cell.Cell.{Cell}
use Rattle.rc_store.specs.declared.cell.Missed.{Missed}
use Rattle.rc_store.specs.declared.cell.Missed.TheVariants.{Dead, Outside}
use Rattle.rc_store.specs.declared.cell.Place.{Place}
use Rattle.rc_store.specs.declared.cell.Pointer.{Pointer}
use Rattle.rc_store.specs.Kept.{Regions}
use Rattle.rc_store.specs.Stores.{cell_value, live_in, object_in, objects_in, objects_with, with_objects}
use Rattle.rc_store.specs.Values.{value_of}

abbrev pub is_element : Regions → Pointer → (shift : ℤ) → Bool
is_element regions p shift = is_index (pos p.index +ℤ shift) (object_in regions p.region p.object).count

abbrev pub index_from : Pointer → (shift : ℤ) → ℕ
index_from p shift = unsigned_abs (pos p.index +ℤ shift)

-- a cell of that element
abbrev pub place_from : Pointer → (shift : ℤ) → (cell : ℕ) → Place
place_from p shift cell = record { pointer = record { region = p.region; object = p.object; index = index_from p shift }; cell = cell }

-- the region is live and the object has the element
abbrev pub Finds : Regions → Pointer → (shift : ℤ) → Type 0
Finds regions p shift = IsTrue (live_in regions p.region) × (is_element regions p shift ≡ true)

abbrev pub Misses : Regions → Pointer → (shift : ℤ) → Missed → Type 0
Misses regions p shift Dead = live_in regions p.region ≡ false
Misses regions p shift Outside = IsTrue (live_in regions p.region) × (is_element regions p shift ≡ false)

abbrev pub Loads : Regions → Pointer → (shift : ℤ) → (cell : ℕ) → Result Cell Missed → Type 0
Loads regions p shift cell (Ok value) = Finds regions p shift × (value_of value ≡ cell_value (object_in regions p.region p.object) (index_from p shift) cell)
Loads regions p shift cell (Err missed) = Misses regions p shift missed

-- the regions with that cell written
abbrev pub stored : Pointer → (shift : ℤ) → (cell : ℕ) → Value → Regions → Regions
stored p shift cell v regions = with_objects p.region (objects_with p.object (index_from p shift) cell v (objects_in regions p.region)) regions

abbrev pub Stores : Pointer → (shift : ℤ) → (cell : ℕ) → Value → (before after : Regions) → Result (Unit {0}) Missed → Type 0
Stores p shift cell v before after (Ok done) = Finds before p shift × (after ≡ stored p shift cell v before)
Stores p shift cell v before after (Err missed) = Misses before p shift missed × (after ≡ before)
