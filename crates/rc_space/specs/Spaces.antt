-- The live regions with their objects, as registry, areas and shapes have them: the objects of a region are those of the area at
-- its slot.
use Rattle.std.specs.Prelude.{◌≡◌, ◌≢◌, ◌<◌, ℕ, Bool, IsTrue, List, [], map, option_map, length, slice_index_or}
use Rattle.rc_core.specs.declared.layouts.Kind.TheVariants.{Number as NumberKind}
use Rattle.rc_store.specs.declared.cell.Place.{Place}
use Rattle.rc_store.specs.Kept.{KeptObject, KeptView, Regions}
use Rattle.rc_store.specs.Stores.{HasCell, cell_place, cell_value, live_in, object_in, objects_in}
use Rattle.rc_store.specs.Values.{suits}
use Rattle.rc_slots.specs.Entries.{Member}
use Rattle.rc_areas.specs.Areas.{AreaState, IsLaid, objects_of}
use Rattle.rc_areas.specs.Shapes.{Shape}
use Rattle.rc_registry.specs.Registries.{IsMember, Members, member_in}
use Rattle.rc_registry.specs.Groups.{AreClear}

-- the regions, and how many references to each are counted
pub record SpaceState : Type 0 where
  pub regions : Regions
  pub counts : List ℕ

-- none to one that is dead or wasn't made
abbrev pub count_of : SpaceState → ℕ → ℕ
count_of s r = slice_index_or s.counts r 0

abbrev pub no_area : AreaState
no_area = record { heads = []; codes = [] }

abbrev pub area_at : List AreaState → ℕ → AreaState
area_at areas slot = slice_index_or areas slot no_area

abbrev pub view_of : List AreaState → List Shape → Member → KeptView
view_of areas shapes m = record { parent = m.parent; objects = objects_of shapes (area_at areas m.slot) }

abbrev pub regions_of : Members → List AreaState → List Shape → Regions
regions_of members areas shapes = map (option_map (view_of areas shapes)) members

-- an area for each slot, each laid out by the shapes
pub record IsSpace (slots : ℕ) (areas : List AreaState) (shapes : List Shape) : Type 0 where
  pub count : length areas ≡ slots
  pub laid : (slot : ℕ) → IsLaid shapes (area_at areas slot)

-- no object is kept at a slot where no live region stands
abbrev pub AreFreed : Members → List AreaState → Type 0
AreFreed members areas = (slot : ℕ) → ((n : ℕ) → IsMember members n → (member_in members n).slot ≢ slot) → area_at areas slot ≡ no_area

-- besides, room for a mark for each slot, none of which is set
pub record IsSoundSpace (members : Members) (slots : ℕ) (areas : List AreaState) (shapes : List Shape) (marks : List Bool) : Type 0 where
  pub space : IsSpace slots areas shapes
  pub freed : AreFreed members areas
  pub count : length marks ≡ slots
  pub clear : AreClear marks

-- the other areas are as they were
pub record IsBeside (slot : ℕ) (old new : List AreaState) : Type 0 where
  pub others : (s : ℕ) → s ≢ slot → area_at new s ≡ area_at old s
  pub count : length new ≡ length old

-- a live region, an object of it, and a cell of that
pub record HasSpot (regions : Regions) (p : Place) : Type 0 where
  pub live : IsTrue (live_in regions p.pointer.region)
  pub object : p.pointer.object < length (objects_in regions p.pointer.region)
  pub cell : HasCell (object_in regions p.pointer.region p.pointer.object) p.pointer.index p.cell

-- a cell has a kind and a value, and they suit each other
pub record IsWhole (o : KeptObject) (index cell : ℕ) : Type 0 where
  pub kind : cell_place o index cell < length o.kinds
  pub value : cell_place o index cell < length o.values
  pub suits : IsTrue (suits (slice_index_or o.kinds (cell_place o index cell) NumberKind) (cell_value o index cell))
