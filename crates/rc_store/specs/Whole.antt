-- What a heap keeps at every moment: of the regions, of their objects, of each cell and of each pin.
use Rattle.std.specs.Prelude.{◌≡◌, ◌≢◌, ◌<◌, ◌*◌, ℕ, IsTrue, All, length}
use Rattle.rc_core.specs.Heap.{Value, fits}
use Rattle.rc_store.specs.declared.cell.Place.{Place}
use Rattle.rc_store.specs.Kept.{KeptObject, KeptStore}
use Rattle.rc_store.specs.Stores.{HasObject, HasPlace, IsFresh, IsLive, kind_at, object_in, parent_in, kept_value}
use Rattle.rc_store.specs.Values.{note_of, suits}

-- a value stands rightly in a cell: it is of the cell's kind, names no dead region, and fits the annotation
pub record StandsAt (s : KeptStore) (p : Place) (v : Value) : Type 0 where
  pub kind : IsTrue (suits (kind_at s p) v)
  pub fresh : IsFresh s v
  pub fit : IsTrue (fits (parent_in s.regions) (note_of (kind_at s p)) p.pointer.region v)

-- an object has a kind and a value for each of its cells
pub record IsFilled (o : KeptObject) : Type 0 where
  pub kinds : length o.kinds ≡ o.count * o.size
  pub values : length o.values ≡ o.count * o.size

pub record IsWhole (s : KeptStore) : Type 0 where
  pub root : IsLive s 0
  pub parents : (r : ℕ) → IsLive s r → IsLive s (parent_in s.regions r)
  pub older : (r : ℕ) → IsLive s r → r ≢ 0 → parent_in s.regions r < r
  pub filled : (r o : ℕ) → IsLive s r → HasObject s r o → IsFilled (object_in s.regions r o)
  pub cells : (p : Place) → HasPlace s p → StandsAt s p (kept_value s p)
  pub pins : All (IsFresh s) s.pins
