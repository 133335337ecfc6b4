-- A sound heap: region 0 is alive; the parent of a live region is alive and was made before it; each cell of a live region
-- names no dead region, and what stands in an annotated cell fits.
use Rattle.std.specs.Prelude.{◌≡◌, ℕ, ◌<◌, Bool, true, false, nat_eq}
use Rattle.std.specs.List.{AllByRecursion as Every, AllZip}
use Rattle.rc_core.specs.Types.{CellKind}
use Rattle.rc_core.specs.Layout.{note_of}
use Rattle.rc_core.specs.Heap.{Value, Object, kinds_of, Region, Heap, region_at, live, parent, is_fresh, fits}

-- All but the last is said of any `live` and `parent`, since most steps leave both as they were.

-- it names no dead region
abbrev pub IsFresh : (live : ℕ → Bool) → Value → Type 0
IsFresh live value = is_fresh live value ≡ true

-- a cell of the holder's region
pub record CellIsSound (live : ℕ → Bool) (parent : ℕ → ℕ) (holder : ℕ) (kind : CellKind) (value : Value) : Type 0 where
  pub fresh : IsFresh live value
  pub fit : fits parent (note_of kind) holder value ≡ true

-- the object has a value for each cell
abbrev pub ObjectIsSound : (live : ℕ → Bool) → (parent : ℕ → ℕ) → (holder : ℕ) → Object → Type 0
ObjectIsSound live parent holder o = AllZip (CellIsSound live parent holder) (kinds_of o) o.values

-- of a live region
pub record RegionIsSound (live : ℕ → Bool) (parent : ℕ → ℕ) (r : ℕ) (g : Region) : Type 0 where
  pub parent_lives : live g.parent ≡ true
  pub made_later : nat_eq r 0 ≡ false → g.parent < r
  pub objects : Every (ObjectIsSound live parent r) g.objects

abbrev pub EachIsSound : (live : ℕ → Bool) → (parent : ℕ → ℕ) → Heap → Type 0
EachIsSound live parent heap = (r : ℕ) → (region_at heap r).alive ≡ true → RegionIsSound live parent r (region_at heap r)

pub record HeapIsSound (heap : Heap) : Type 0 where
  pub root : live heap 0 ≡ true
  pub regions : EachIsSound (live heap) (parent heap) heap
