-- What a script keeps beside its heap, since a heap doesn't tell it: how many objects each region has, and how often it is pinned.
use Rattle.std.specs.Prelude.{◌≡◌, ◌<◌, ℕ, IsTrue, List, length, slice_index, slice_index_or, count_by}
use Rattle.rc_core.specs.declared.layouts.Kind.TheVariants.{Number as NumberKind, Region as RegionKind}
use Rattle.rc_core.specs.Heap.{Value}
use Rattle.rc_store.specs.Kept.{KeptObject, KeptStore, Regions}
use Rattle.rc_store.specs.Stores.{live_in, object_in, objects_in}
use Rattle.rc_replies.specs.Replies.{is_pin}

-- by the regions' numbers
pub record RecordsState : Type 0 where
  pub objects : List ℕ
  pub pins : List ℕ

-- they are right, where of a dead region nothing is said of objects
pub record AreRecordsOf (t : RecordsState) (regions : Regions) (values : List Value) : Type 0 where
  pub all_objects : length t.objects ≡ length regions
  pub all_pins : length t.pins ≡ length regions
  pub objects : (r : ℕ) → IsTrue (live_in regions r) → slice_index t.objects r ≡ length (objects_in regions r)
  pub pins : (r : ℕ) → slice_index t.pins r ≡ count_by (is_pin r) values

-- its elements are one cell each, which holds a region
pub record IsRow (o : KeptObject) : Type 0 where
  pub size : o.size ≡ 1
  pub kinds : (i : ℕ) → i < o.count → slice_index_or o.kinds i NumberKind ≡ RegionKind

abbrev pub AreRows : Regions → Type 0
AreRows regions = (r o : ℕ) → o < length (objects_in regions r) → IsRow (object_in regions r o)

-- a store as scripts make it, with these records
pub record IsKeptBy (t : RecordsState) (s : KeptStore) : Type 0 where
  pub records : AreRecordsOf t s.regions s.pins
  pub rows : AreRows s.regions
