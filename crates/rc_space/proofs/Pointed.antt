-- Elements that are so far from a pointer's, as an area has them.
use Rattle.std.proofs.Common.{◌≡◌, ◌∙◌, ℕ, Bool, true, IsTrue, Option, Some, None, get_or, List, refl, sym, ap, subst}
use Rattle.std.specs.Prelude.{◌+ℤ◌, ℤ, pos, option_map, unsigned_abs}
use Rattle.rc_core.specs.Source.{is_index}
use Rattle.rc_store.specs.declared.cell.Pointer.{Pointer}
use Rattle.rc_store.specs.Elements.{index_from, is_element, place_from}
use Rattle.rc_store.specs.Kept.{KeptObject, Regions}
use Rattle.rc_store.specs.Stores.{HasCell, cell_value, live_in, no_object, object_in}
use Rattle.rc_slots.specs.Entries.{Member}
use Rattle.rc_areas.specs.Areas.{AreaState, objects_of}
use Rattle.rc_areas.specs.Shapes.{Shape}
use Rattle.rc_registry.specs.Registries.{Members, is_member, member_at, member_in, or_root}
use Rattle.rc_space.specs.Spaces.{HasSpot, IsSpace, area_at, regions_of}
use Rattle.rc_space.proofs.Regions.{live_is}
use Rattle.rc_space.proofs.Shown.{area_object}

record Slotted (o : Option Member) (slot : ℕ) : Type 0 where
  member : is_member o ≡ true
  is : slot ≡ (or_root o).slot

slotted : (o : Option Member) (slot : ℕ) → option_map (λ (m : Member). m.slot) o ≡ Some slot → Slotted o slot
slotted None slot e = absurd cc
slotted (Some m) slot e = record { member = refl; is = let q : m.slot ≡ slot = cc in sym q }

module _ (ms : Members) (areas : List AreaState) (shapes : List Shape) (slots : ℕ) (space : IsSpace slots areas shapes) (now : Regions) (view : regions_of ms areas shapes ≡ now) where
  -- a region that is looked up is live, and this is its slot
  pub record IsFound (r slot : ℕ) : Type 0 where
    pub live : IsTrue (live_in now r)
    pub is : slot ≡ (member_in ms r).slot

  pub found : (r slot : ℕ) (o : Option ℕ) → o ≡ option_map (λ (m : Member). m.slot) (member_at ms r) → o ≡ Some slot → IsFound r slot
  found r slot o e is =
      let s = slotted (member_at ms r) slot (sym e ∙ is) in
      record { live = ap (λ regions. live_in regions r) (sym view) ∙ live_is ms areas shapes r ∙ s.member; is = s.is }

  module _ (p : Pointer) (shift : ℤ) (slot : ℕ) (found : IsFound p.region slot) (a : AreaState) (area : a ≡ area_at areas slot) where
    abbrev object : KeptObject
    object = get_or (objects_of shapes a) p.object no_object

    object_is : object_in now p.region p.object ≡ object
    object_is = area_object ms areas shapes slots space now view p.region slot found.live found.is a area p.object

    pub element_is : (elements : ℕ) (b : Bool) (z : ℤ) → z ≡ shift → elements ≡ object.count → is_index (pos p.index +ℤ z) elements ≡ b → is_element now p shift ≡ b
    element_is elements b z same e is = ap (λ (o : KeptObject). is_index (pos p.index +ℤ shift) o.count) object_is ∙ ap (is_index (pos p.index +ℤ shift)) (sym e) ∙ ap (λ y. is_index (pos p.index +ℤ y) elements) (sym same) ∙ is

    pub cell_of : (index cell : ℕ) → index ≡ index_from p shift → HasSpot now (place_from p shift cell) → HasCell object index cell
    cell_of index cell e spot = subst (λ i. HasCell object i cell) (sym e) (subst (λ o. HasCell o (index_from p shift) cell) object_is spot.cell)

    pub value_of_cell : (index cell : ℕ) → index ≡ index_from p shift → cell_value object index cell ≡ cell_value (object_in now p.region p.object) (index_from p shift) cell
    value_of_cell index cell e = ap (λ i. cell_value object i cell) e ∙ ap (λ o. cell_value o (index_from p shift) cell) (sym object_is)

-- the index by the shift as code has it
pub index_by : (p : Pointer) (shift z : ℤ) (index : ℕ) → z ≡ shift → index ≡ unsigned_abs (pos p.index +ℤ z) → index ≡ index_from p shift
index_by p shift z index same e = e ∙ ap (λ y. unsigned_abs (pos p.index +ℤ y)) same

-- the spot with that index
pub spot_at : (now : Regions) (p : Pointer) (shift : ℤ) (index cell : ℕ) → index ≡ index_from p shift → HasSpot now (place_from p shift cell) → HasSpot now (record { pointer = record { region = p.region; object = p.object; index = index }; cell = cell })
spot_at now p shift index cell e spot = subst (λ n. HasSpot now (record { pointer = record { region = p.region; object = p.object; index = n }; cell = cell })) (sym e) spot
