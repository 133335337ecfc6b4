-- What a space shows of a live region: the objects of the area at its slot.
use Rattle.std.proofs.Common.{◌≡◌, ◌<◌, ◌∙◌, ℕ, IsTrue, List, Some, length, get_or, sym, ap, subst, arith}
use Rattle.std.proofs.lemmas.List.{get_or_read}
use Rattle.rc_store.specs.Kept.{KeptObject, Regions}
use Rattle.rc_store.specs.Stores.{HasCell, cells_in, live_in, no_object, object_in, objects_in, region_at}
use Rattle.rc_areas.specs.Areas.{AreaState, IsLaid, objects_of}
use Rattle.rc_areas.specs.Shapes.{Shape}
use Rattle.rc_areas.proofs.Objects.{length-objects}
use Rattle.rc_registry.specs.Registries.{IsApart, IsMember, Members, member_in}
use Rattle.rc_space.specs.Spaces.{IsSpace, IsWhole, area_at, regions_of}
use Rattle.rc_space.proofs.Regions.{member_live, objects_are, view_is}
use Rattle.rc_space.proofs.Wholes.{area_sizes, object_whole}

module _ (ms : Members) (areas : List AreaState) (shapes : List Shape) (slots : ℕ) (space : IsSpace slots areas shapes) (now : Regions) (view : regions_of ms areas shapes ≡ now) where
  pub live_shown : (r : ℕ) → IsTrue (live_in now r) → IsMember ms r
  live_shown r live = member_live ms areas shapes r (subst (λ regions. IsTrue (live_in regions r)) (sym view) live)

  module _ (r slot : ℕ) (live : IsTrue (live_in now r)) (is : slot ≡ (member_in ms r).slot) where
    pub objects_shown : objects_in now r ≡ objects_of shapes (area_at areas slot)
    objects_shown = ap (λ regions. objects_in regions r) (sym view) ∙ objects_are ms areas shapes r (live_shown r live) ∙ ap (λ s. objects_of shapes (area_at areas s)) (sym is)

    pub slot_inside : IsApart ms slots → slot < length areas
    slot_inside apart = omega (arith, is, apart.below r (live_shown r live), space.count)

    module _ (a : AreaState) (area : a ≡ area_at areas slot) where
      pub area_laid : IsLaid shapes a
      area_laid = subst (IsLaid shapes) (sym area) (space.laid slot)

      pub area_objects : objects_in now r ≡ objects_of shapes a
      area_objects = objects_shown ∙ ap (objects_of shapes) (sym area)

      pub area_object : (o : ℕ) → object_in now r o ≡ get_or (objects_of shapes a) o no_object
      area_object o = ap (λ (os : List KeptObject). get_or os o no_object) area_objects

      pub heads_many : length a.heads ≡ length (objects_in now r)
      heads_many = sym (length-objects shapes a.heads a.codes) ∙ ap length (sym area_objects)

      pub cells_many : length a.codes ≡ cells_in (region_at now r)
      cells_many =
          sym (area_sizes shapes a area_laid)
          ∙ ap (λ (x : AreaState). cells_in (Some (record { parent = (member_in ms r).parent; objects = objects_of shapes x }))) (area ∙ ap (area_at areas) is)
          ∙ ap cells_in (sym (view_is ms areas shapes r (live_shown r live)))
          ∙ ap (λ regions. cells_in (region_at regions r)) view

      module _ (o index cell : ℕ) (inside : o < length (objects_in now r)) (has : HasCell (object_in now r o) index cell) where
        pub head_inside : o < length a.heads
        head_inside = omega (arith, inside, heads_many)

        pub cell_inside : HasCell (get_or (objects_of shapes a) o no_object) index cell
        cell_inside = subst (λ x. HasCell x index cell) (area_object o) has

        pub cell_whole : IsWhole (object_in now r o) index cell
        cell_whole = subst (λ x. IsWhole x index cell) (sym (area_object o)) (object_whole shapes a o index cell area_laid head_inside cell_inside)

-- an area as code reads it
pub area_read : (areas : List AreaState) (slot : ℕ) (a : AreaState) → slot < length areas → a ≡ get_or areas slot a → a ≡ area_at areas slot
area_read areas slot a inside is = get_or_read areas slot a inside is _
