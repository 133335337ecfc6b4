-- How the references to a region change, call by call.
use Rattle.std.specs.Prelude.{◌≡◌, ◌≢◌, ◌<◌, ◌≤◌, ◌+◌, ◌*◌, ℕ, ◌&&◌, nat_eq, List, length, if◌then◌else◌}
use Rattle.rc_core.specs.declared.layouts.Kind.{Kind}
use Rattle.rc_core.specs.Heap.{Value, names}
use Rattle.rc_store.specs.declared.cell.Place.{Place}
use Rattle.rc_store.specs.Kept.{KeptStore, refs, view_refs}
use Rattle.rc_store.specs.Stores.{HasPlace, IsLive, all_cells, allocated, at_place, cell_place, cells_in, deleted, kind_at, made, region_at, kept_value, written}
use Rattle.rc_store.specs.Values.{is_counted}

-- the references of one cell to r: none where it lies in r itself
abbrev pub cell_refs : (r holder : ℕ) → Kind → Value → ℕ
cell_refs r holder kind v = if nat_eq holder r then 0 else (if is_counted kind && names r v then 1 else 0)

-- the cell is there: its object has as many kinds and values as it has cells
pub record IsThere (s : KeptStore) (p : Place) : Type 0 where
  pub place : HasPlace s p
  pub kind : cell_place (at_place s p) p.pointer.index p.cell < length (at_place s p).kinds
  pub value : cell_place (at_place s p) p.pointer.index p.cell < length (at_place s p).values

pub record ReferencesFollow : Type 0 where
  pub made : (s : KeptStore) (parent r : ℕ) → refs (made parent s) r ≡ refs s r
  pub allocated : (s : KeptStore) (q n r : ℕ) (kinds : List Kind) → IsLive s q → refs (allocated q kinds n s) r ≡ refs s r
  pub written : (s : KeptStore) (p : Place) (v : Value) (r : ℕ) → IsThere s p
      → refs (written p v s) r + cell_refs r p.pointer.region (kind_at s p) (kept_value s p) ≡ refs s r + cell_refs r p.pointer.region (kind_at s p) v
  pub others : (s : KeptStore) (d r : ℕ) → d < length s.regions → r ≢ d → refs (deleted d s) r + view_refs r (region_at s.regions d) ≡ refs s r
  pub own : (s : KeptStore) (d : ℕ) → d < length s.regions → refs (deleted d s) d ≡ refs s d
  pub few : (s : KeptStore) (r : ℕ) → refs s r ≤ all_cells s + length s.pins

-- how the cells of all live regions change
pub record CellsFollow : Type 0 where
  pub made : (s : KeptStore) (parent : ℕ) → all_cells (made parent s) ≡ all_cells s
  pub allocated : (s : KeptStore) (q n : ℕ) (kinds : List Kind) → IsLive s q → all_cells (allocated q kinds n s) ≡ all_cells s + n * length kinds
  pub written : (s : KeptStore) (p : Place) (v : Value) → HasPlace s p → all_cells (written p v s) ≡ all_cells s
  pub deleted : (s : KeptStore) (d : ℕ) → d < length s.regions → all_cells (deleted d s) + cells_in (region_at s.regions d) ≡ all_cells s
