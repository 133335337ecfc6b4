-- What the operations of the source's world do to what region variables name. A heap that grew has all its old regions, each with its old
-- parent: no number is used again, and a deleted region keeps its own. A value is made where its region was made, and it may be deleted
-- since. Each operation below is said by what holds where it goes on.
use Rattle.std.specs.Prelude.{◌≡◌, ℕ, ◌<◌, ◌≤◌, true, length, map, get_or}
use Rattle.rc_core.specs.declared.ty.Note.{Note}
use Rattle.rc_core.specs.declared.ty.Note.TheVariants.{Plain}
use Rattle.rc_core.specs.Layout.{note_of}
use Rattle.rc_core.specs.Heap.{Value, Number, Null, Handle, Pointer, Heap, object_at, parent, is_above, fits}
use Rattle.rc_core.specs.Runs.{Target}
use Rattle.rc_core.specs.Source.{World, cell_of}
use Rattle.rc_safety.specs.Soundness.{HeapIsSound}
use Rattle.rc_annotations.specs.Holding.{is_present, region_in, Rooted}

pub record Grown (before after : Heap) : Type 0 where
  pub longer : length before ≤ length after
  pub parents : (r : ℕ) → r < length before → parent after r ≡ parent before r

abbrev pub Made : Heap → Value → Type 0
Made heap v = is_present v → region_in v < length heap

-- values are made, and each region but region 0 later than its parent
pub record Grounded (values : ℕ → Value) (heap : Heap) : Type 0 where
  pub rooted : Rooted (parent heap)
  pub made : (x : ℕ) → Made heap (values x)

-- a world whose heap is in order
pub record Sane (w : World) : Type 0 where
  pub sound : HeapIsSound w.heap
  pub rooted : Rooted (parent w.heap)

-- it is in order, and grew from the other
pub record Stays (w w1 : World) : Type 0 where
  pub sane : Sane w1
  pub grown : Grown w.heap w1.heap

-- the annotation that an object's layout has for the cell of a target
abbrev pub note_behind : Heap → Value → (cell : ℕ) → Note
note_behind heap (Number n) cell = Plain
note_behind heap Null cell = Plain
note_behind heap (Handle r) cell = Plain
note_behind heap (Pointer a) cell = get_or (map note_of (object_at heap a.region a.object).layout) cell Plain

abbrev pub note_at : Heap → Target → Note
note_at heap t = note_behind heap t.pointer (cell_of t)

-- from a value v, which isn't null, a value u of its region
abbrev pub Beside : World → (v u : Value) → World → Type 0
Beside w v u w1 = Stays w w1 × Made w1.heap u × is_present v × is_present u × (region_in u ≡ region_in v)

-- a region
abbrev pub Anew : World → (u : Value) → World → Type 0
Anew w u w1 = Stays w w1 × Made w1.heap u × is_present u

-- a region below that of v, which isn't null
abbrev pub Under : World → (v u : Value) → World → Type 0
Under w v u w1 = Stays w w1 × Made w1.heap u × is_present v × is_present u × (is_above (parent w1.heap) (region_in v) (region_in u) ≡ true)

-- a value of a cell, with the annotation of the cell
abbrev pub Loaded : World → Target → (u : Value) → World → Type 0
Loaded w t u w1 = Stays w w1 × Made w1.heap u × is_present t.pointer × (fits (parent w1.heap) (note_at w.heap t) (region_in t.pointer) u ≡ true)

abbrev pub Stored : World → Target → (v : Value) → Unit {0} → World → Type 0
Stored w t v u w1 = Stays w w1 × is_present t.pointer × (fits (parent w1.heap) (note_at w.heap t) (region_in t.pointer) v ≡ true)

abbrev pub Deleted : World → (v : Value) → Unit {0} → World → Type 0
Deleted w v u w1 = Stays w w1 × is_present v
