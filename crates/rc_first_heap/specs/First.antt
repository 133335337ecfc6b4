-- The heap in which the run of an image begins: as its constructor made it and with the limits of the run, and then with one object
-- for each global.
use Rattle.std.specs.Prelude.{◌≡◌, ◌<◌, ℕ, List, [], ◌∷◌, map, slice_index_or, Some}
use Rattle.rc_base.specs.declared.ends.Limits.{Limits}
use Rattle.rc_core.specs.declared.layouts.Kind.TheVariants.{Number as NumberKind}
use Rattle.rc_core.specs.Heap.{blank}
use Rattle.rc_core.specs.Laid.{held_kind}
use Rattle.rc_core.specs.Layout.{Layout}
use Rattle.rc_code.specs.declared.image.Global.{Global}
use Rattle.rc_code.specs.declared.image.Initial.{Initial}
use Rattle.rc_code.specs.declared.image.Parts.{Parts}
use Rattle.rc_code.specs.Running.{layout_at, reading_of}
use Rattle.rc_code.specs.ImageMeaning.{first_objects, first_values}
use Rattle.rc_store.specs.Kept.{KeptObject, KeptStore, kept_object}
use Rattle.rc_store.specs.declared.cell.Place.{Place}
use Rattle.rc_store.specs.Stores.{IsLive, HasObject, IsNew, object_in, objects_in}

-- region 0 alone, without objects, nothing pinned, and these limits
pub record IsUnused (limits : Limits) (s : KeptStore) : Type 0 where
  pub new : IsNew s
  pub region_limit : s.region_limit ≡ limits.regions
  pub block_limit : s.block_limit ≡ limits.blocks

-- region 0 alone, with these objects
abbrev pub holding : List KeptObject → KeptStore → KeptStore
holding objects s = record s { regions = Some (record { parent = 0; objects = objects }) ∷ [] }

abbrev pub first_of : KeptStore → List KeptObject
first_of s = objects_in s.regions 0

-- no other region is there
abbrev pub IsAlone : KeptStore → Type 0
IsAlone s = s ≡ holding (first_of s) s

-- one cell, which is a number
abbrev pub IsNumber : Layout → Type 0
IsNumber layout = map held_kind layout ≡ NumberKind ∷ []

-- an object with its first values; that of a global, and those of all
abbrev pub kept_first : Layout → (elements : ℕ) → Initial → KeptObject
kept_first layout elements initial = kept_object (record (blank layout elements) { values = first_values layout initial (blank layout elements).values })

abbrev pub kept_global : Parts → Global → KeptObject
kept_global parts g = kept_first (layout_at (reading_of parts) g.type_number) g.elements g.initial

abbrev pub kept_globals : Parts → List KeptObject
kept_globals parts = map kept_object (first_objects (reading_of parts))

-- an element of an object of region 0, where each element is a number
abbrev pub place_of : (object element : ℕ) → Place
place_of object element = record { pointer = record { region = 0; object = object; index = element }; cell = 0 }

pub record HasNumber (s : KeptStore) (object element : ℕ) : Type 0 where
  pub live : IsLive s 0
  pub there : HasObject s 0 object
  pub width : (object_in s.regions 0 object).size ≡ 1
  pub within : element < (object_in s.regions 0 object).count
  pub kind : slice_index_or (object_in s.regions 0 object).kinds element NumberKind ≡ NumberKind
