-- What each call does to the store.
use Rattle.std.specs.Prelude.{◌≡◌, ◌<◌, ◌+◌, ◌*◌, ℕ, Bool, true, false, nat_eq, IsTrue, List, [], ◌∷◌, ◌++◌, length, slice_get, slice_set, slice_index_or, sum_by, option_map, Option, Some, None}
use Rattle.std.specs.List.{list_any}
use Rattle.rc_base.specs.declared.ends.Limits.{Limits}
use Rattle.rc_core.specs.declared.layouts.Kind.{Kind}
use Rattle.rc_core.specs.declared.layouts.Kind.TheVariants.{Number as NumberKind}
use Rattle.rc_core.specs.Heap.{Value, Null, is_fresh, update}
use Rattle.rc_store.specs.Kept.{KeptObject, KeptView, KeptStore, Regions, blank}
use Rattle.rc_store.specs.declared.cell.Place.{Place}
use Rattle.rc_store.specs.Values.{suits}

abbrev pub no_object : KeptObject
no_object = record { size = 0; count = 0; kinds = []; values = [] }

abbrev pub no_view : KeptView
no_view = record { parent = 0; objects = [] }

abbrev pub or_none : Option KeptView → KeptView
or_none None = no_view
or_none (Some v) = v

abbrev pub is_view : Option KeptView → Bool
is_view None = false
is_view (Some v) = true

abbrev pub joined : Option (Option KeptView) → Option KeptView
joined None = None
joined (Some v) = v

-- none where the region is dead or wasn't made
abbrev pub region_at : Regions → ℕ → Option KeptView
region_at regions r = joined (slice_get regions r)

abbrev pub live_in : Regions → ℕ → Bool
live_in regions r = is_view (region_at regions r)

abbrev pub view_in : Regions → ℕ → KeptView
view_in regions r = or_none (region_at regions r)

abbrev pub parent_in : Regions → ℕ → ℕ
parent_in regions r = (view_in regions r).parent

abbrev pub objects_in : Regions → ℕ → List KeptObject
objects_in regions r = (view_in regions r).objects

abbrev pub object_in : Regions → (r o : ℕ) → KeptObject
object_in regions r o = slice_index_or (objects_in regions r) o no_object

-- a live region, and an object of it
abbrev pub IsLive : KeptStore → ℕ → Type 0
IsLive s r = IsTrue (live_in s.regions r)

abbrev pub HasObject : KeptStore → (r o : ℕ) → Type 0
HasObject s r o = o < length (objects_in s.regions r)

-- the cell is one of the object's
pub record HasCell (o : KeptObject) (index cell : ℕ) : Type 0 where
  pub element : index < o.count
  pub within : cell < o.size

abbrev pub cell_place : KeptObject → (index cell : ℕ) → ℕ
cell_place o index cell = index * o.size + cell

abbrev pub cell_value : KeptObject → (index cell : ℕ) → Value
cell_value o index cell = slice_index_or o.values (cell_place o index cell) Null

-- the object with another value in this cell
abbrev pub object_with : (index cell : ℕ) → Value → KeptObject → KeptObject
object_with index cell v o = record o { values = slice_set o.values (cell_place o index cell) v }

abbrev pub at_place : KeptStore → Place → KeptObject
at_place s p = object_in s.regions p.pointer.region p.pointer.object

pub record HasPlace (s : KeptStore) (p : Place) : Type 0 where
  pub live : IsLive s p.pointer.region
  pub object : HasObject s p.pointer.region p.pointer.object
  pub cell : HasCell (at_place s p) p.pointer.index p.cell

abbrev pub kept_value : KeptStore → Place → Value
kept_value s p = cell_value (at_place s p) p.pointer.index p.cell

abbrev pub kind_at : KeptStore → Place → Kind
kind_at s p = slice_index_or (at_place s p).kinds (cell_place (at_place s p) p.pointer.index p.cell) NumberKind

abbrev pub IsFresh : KeptStore → Value → Type 0
IsFresh s v = IsTrue (is_fresh (live_in s.regions) v)

-- a value may be written where a value is read as one of that kind
pub record MayStand (s : KeptStore) (p : Place) (v : Value) : Type 0 where
  pub place : HasPlace s p
  pub fresh : IsFresh s v
  pub kind : IsTrue (suits (kind_at s p) v)

-- a region with these objects instead
abbrev pub view_with : List KeptObject → KeptView → KeptView
view_with objects v = record v { objects = objects }

-- the regions where a live one has these objects instead; a dead one stays dead
abbrev pub with_objects : ℕ → List KeptObject → Regions → Regions
with_objects r objects regions = update regions r (option_map (view_with objects))

abbrev pub objects_with : (o index cell : ℕ) → Value → List KeptObject → List KeptObject
objects_with o index cell v objects = slice_set objects o (object_with index cell v (slice_index_or objects o no_object))

-- one more region
abbrev pub made : (parent : ℕ) → KeptStore → KeptStore
made parent s = record s { regions = s.regions ++ Some (record { parent = parent; objects = [] }) ∷ [] }

-- one more object
abbrev pub allocated : (r : ℕ) → (kinds : List Kind) → (n : ℕ) → KeptStore → KeptStore
allocated r kinds n s = record s { regions = with_objects r (objects_in s.regions r ++ blank kinds n ∷ []) s.regions }

abbrev pub written : Place → Value → KeptStore → KeptStore
written p v s = record s { regions = with_objects p.pointer.region (objects_with p.pointer.object p.pointer.index p.cell v (objects_in s.regions p.pointer.region)) s.regions }

abbrev pub deleted : ℕ → KeptStore → KeptStore
deleted r s = record s { regions = slice_set s.regions r None }

abbrev pub is_child : ℕ → Option KeptView → Bool
is_child r None = false
is_child r (Some v) = nat_eq v.parent r

-- a live region has r as its parent
abbrev pub has_child : KeptStore → ℕ → Bool
has_child s r = list_any (is_child r) s.regions

abbrev pub size_of : KeptObject → ℕ
size_of o = length o.values

abbrev pub cells_in : Option KeptView → ℕ
cells_in None = 0
cells_in (Some v) = sum_by size_of v.objects

-- the cells of all live regions
abbrev pub all_cells : KeptStore → ℕ
all_cells s = sum_by cells_in s.regions

abbrev pub limited : Limits → KeptStore → KeptStore
limited limits s = record s { region_limit = limits.regions; block_limit = limits.blocks }

-- region 0 alone, without objects, and nothing pinned
pub record IsNew (s : KeptStore) : Type 0 where
  pub regions : s.regions ≡ Some no_view ∷ []
  pub pins : s.pins ≡ []

-- values in any order, and how many more have room
pub record PinsState : Type 0 where
  pub pins : List Value
  pub spare : ℕ
