use Rattle.std.proofs.Common.{◌≡◌, ◌<◌, ◌∙◌, false, true, IsTrue, length, get_or, refl, sym, ap, subst, rules, arith, w64, of_z, to_z, SFits, to_z-of_z}
use Rattle.std.proofs.lemmas.List.{with_items_is}
use Rattle.rc_core.specs.Heap.{Number as NumberValue}
use Rattle.rc_core.specs.declared.layouts.Kind.TheVariants.{Number as NumberKind}
use Rattle.rc_store.specs.Elements.{index_from}
use Rattle.rc_store.specs.Stores.{HasCell, cell_place, no_object, object_in, objects_in, objects_with, with_objects}
use Rattle.rc_store.specs.Values.{suits}
use Rattle.rc_areas.specs.Areas.{objects_of}
use Rattle.rc_registry.specs.Registries.{RegistryState}
use Rattle.rc_space.specs.Spaces.{AreFreed, IsBeside, IsSpace, SpaceState, area_at, regions_of}
use Rattle.rc_space.proofs.Grown.{freed_beside, regions_beside, space_beside}
use Rattle.rc_space.proofs.Pointed.{element_is, found, index_by, spot_at}
use Rattle.rc_space.proofs.Shown.{area_object, area_read, cell_whole, heads_many, live_shown, objects_shown, slot_inside}
use Rattle.rc_space.proofs.space.Space.store_number.Goals as goal

pub count-elements-requires-clause-object : goal.count-elements-requires-clause-object
count-elements-requires-clause-object g c =
    let s = c.self.inside in
    let back : SFits w64 c.args.shift = search rules in
    let areas = s.areas.items in
    let ms = s.registry.members in
    let slots = s.registry.slots in
    let view = ap (λ (x : SpaceState). x.regions) c.self.view_is in
    let p = c.args.pointer in
    let slot = c.in-Some.slot in
    let f = found ms areas s.shapes slots c.self.invariant.space c.args.self.now.regions view p.region slot c.find_if_live.result c.find_if_live.ensures.slot c.in-Some.is in
    let inside = slot_inside ms areas s.shapes slots c.self.invariant.space c.args.self.now.regions view p.region slot f.live f.is c.find_if_live.ensures.apart in
    let area = area_read areas slot c.index.result.now inside c.index.ensures in
    omega (arith, c.requires.object f.live, heads_many ms areas s.shapes slots c.self.invariant.space c.args.self.now.regions view p.region slot f.live f.is c.index.result.now area)

pub returns-in_default-element_at-clause-stores : goal.returns-in_default-element_at-clause-stores
returns-in_default-element_at-clause-stores g c =
    let s = c.self.inside in
    let back : SFits w64 c.args.shift = search rules in
    let areas = s.areas.items in
    let ms = s.registry.members in
    let slots = s.registry.slots in
    let view = ap (λ (x : SpaceState). x.regions) c.self.view_is in
    let p = c.args.pointer in
    let slot = c.in-Some.slot in
    let f = found ms areas s.shapes slots c.self.invariant.space c.args.self.now.regions view p.region slot c.find_if_live.result c.find_if_live.ensures.slot c.in-Some.is in
    let inside = slot_inside ms areas s.shapes slots c.self.invariant.space c.args.self.now.regions view p.region slot f.live f.is c.find_if_live.ensures.apart in
    let area = area_read areas slot c.index.result.now inside c.index.ensures in (
      (f.live, element_is ms areas s.shapes slots c.self.invariant.space c.args.self.now.regions view p c.args.shift slot f c.index.result.now area c.count-elements.result false (to_z w64 (of_z w64 c.args.shift)) (to_z-of_z back) c.count-elements.ensures c.in_default-element_at.ensures),
      ap (λ (x : RegistryState). regions_of x.members areas s.shapes) c.find_if_live.ensures.same ∙ view,
    )

pub write_cell-requires-clause-object : goal.write_cell-requires-clause-object
write_cell-requires-clause-object g c =
    let s = c.self.inside in
    let back : SFits w64 c.args.shift = search rules in
    let areas = s.areas.items in
    let ms = s.registry.members in
    let slots = s.registry.slots in
    let view = ap (λ (x : SpaceState). x.regions) c.self.view_is in
    let p = c.args.pointer in
    let slot = c.in-Some.slot in
    let f = found ms areas s.shapes slots c.self.invariant.space c.args.self.now.regions view p.region slot c.find_if_live.result c.find_if_live.ensures.slot c.in-Some.is in
    let inside = slot_inside ms areas s.shapes slots c.self.invariant.space c.args.self.now.regions view p.region slot f.live f.is c.find_if_live.ensures.apart in
    let area = area_read areas slot c.index.result.now inside c.index.ensures in
    let below : p.object < length (area_at areas slot).heads = omega (arith, c.requires.object f.live, heads_many ms areas s.shapes slots c.self.invariant.space c.args.self.now.regions view p.region slot f.live f.is (area_at areas slot) refl) in
    subst (λ xs. p.object < length (area_at xs slot).heads) (sym c.deref_mut.ensures.value) below

pub write_cell-requires-clause-cell : goal.write_cell-requires-clause-cell
write_cell-requires-clause-cell g c =
    let s = c.self.inside in
    let back : SFits w64 c.args.shift = search rules in
    let areas = s.areas.items in
    let ms = s.registry.members in
    let slots = s.registry.slots in
    let view = ap (λ (x : SpaceState). x.regions) c.self.view_is in
    let p = c.args.pointer in
    let slot = c.in-Some.slot in
    let f = found ms areas s.shapes slots c.self.invariant.space c.args.self.now.regions view p.region slot c.find_if_live.result c.find_if_live.ensures.slot c.in-Some.is in
    let inside = slot_inside ms areas s.shapes slots c.self.invariant.space c.args.self.now.regions view p.region slot f.live f.is c.find_if_live.ensures.apart in
    let area = area_read areas slot c.index.result.now inside c.index.ensures in
    let element = element_is ms areas s.shapes slots c.self.invariant.space c.args.self.now.regions view p c.args.shift slot f c.index.result.now area c.count-elements.result true (to_z w64 (of_z w64 c.args.shift)) (to_z-of_z back) c.count-elements.ensures c.in-Some-element_at.ensures.0 in
    let spot = spot_at c.args.self.now.regions p c.args.shift c.in-Some-element_at.index c.args.cell (index_by c.args.pointer c.args.shift (to_z w64 (of_z w64 c.args.shift)) c.in-Some-element_at.index (to_z-of_z back) c.in-Some-element_at.ensures.1) (c.requires.spot (f.live, element)) in
    let i = c.in-Some-element_at.index in
    subst (λ xs. HasCell (get_or (objects_of s.shapes (area_at xs slot)) p.object no_object) i c.args.cell) (sym c.deref_mut.ensures.value)
    (subst (λ o. HasCell o i c.args.cell) (area_object ms areas s.shapes slots c.self.invariant.space c.args.self.now.regions view p.region slot f.live f.is (area_at areas slot) refl p.object) spot.cell)

pub write_cell-requires-clause-suits : goal.write_cell-requires-clause-suits
write_cell-requires-clause-suits g c =
    let s = c.self.inside in
    let back : SFits w64 c.args.shift = search rules in
    let areas = s.areas.items in
    let ms = s.registry.members in
    let slots = s.registry.slots in
    let view = ap (λ (x : SpaceState). x.regions) c.self.view_is in
    let p = c.args.pointer in
    let slot = c.in-Some.slot in
    let f = found ms areas s.shapes slots c.self.invariant.space c.args.self.now.regions view p.region slot c.find_if_live.result c.find_if_live.ensures.slot c.in-Some.is in
    let inside = slot_inside ms areas s.shapes slots c.self.invariant.space c.args.self.now.regions view p.region slot f.live f.is c.find_if_live.ensures.apart in
    let area = area_read areas slot c.index.result.now inside c.index.ensures in
    let element = element_is ms areas s.shapes slots c.self.invariant.space c.args.self.now.regions view p c.args.shift slot f c.index.result.now area c.count-elements.result true (to_z w64 (of_z w64 c.args.shift)) (to_z-of_z back) c.count-elements.ensures c.in-Some-element_at.ensures.0 in
    let i = c.in-Some-element_at.index in
    let fits : SFits w64 c.args.number = search rules in
    let here = subst (λ n. IsTrue (suits (get_or (object_in c.args.self.now.regions p.region p.object).kinds (cell_place (object_in c.args.self.now.regions p.region p.object) n c.args.cell) NumberKind) (NumberValue c.args.number))) (sym (index_by c.args.pointer c.args.shift (to_z w64 (of_z w64 c.args.shift)) c.in-Some-element_at.index (to_z-of_z back) c.in-Some-element_at.ensures.1)) (c.requires.suits (f.live, element)) in
    let value = subst (λ z. IsTrue (suits (get_or (object_in c.args.self.now.regions p.region p.object).kinds (cell_place (object_in c.args.self.now.regions p.region p.object) i c.args.cell) NumberKind) (NumberValue z))) (sym (to_z-of_z fits)) here in
    subst (λ xs. let o = get_or (objects_of s.shapes (area_at xs slot)) p.object no_object in IsTrue (suits (get_or o.kinds (cell_place o i c.args.cell) NumberKind) (NumberValue (to_z w64 (of_z w64 c.args.number))))) (sym c.deref_mut.ensures.value)
    (subst (λ o. IsTrue (suits (get_or o.kinds (cell_place o i c.args.cell) NumberKind) (NumberValue (to_z w64 (of_z w64 c.args.number))))) (area_object ms areas s.shapes slots c.self.invariant.space c.args.self.now.regions view p.region slot f.live f.is (area_at areas slot) refl p.object) value)

pub invariant_of-self-2 : goal.invariant_of-self-2
invariant_of-self-2 g c =
    let s = c.self.inside in
    let back : SFits w64 c.args.shift = search rules in
    let areas = s.areas.items in
    let ms = s.registry.members in
    let slots = s.registry.slots in
    let view = ap (λ (x : SpaceState). x.regions) c.self.view_is in
    let r = c.args.pointer.region in
    let slot = c.in-Some.slot in
    let f = found ms areas s.shapes slots c.self.invariant.space c.args.self.now.regions view r slot c.find_if_live.result c.find_if_live.ensures.slot c.in-Some.is in
    let new = c.write_cell.new.areas in
    let beside : IsBeside slot areas new = subst (λ xs. IsBeside slot xs new) c.deref_mut.ensures.value c.write_cell.ensures.beside in
    let items = with_items_is s.areas new (c.write_cell.ensures.beside.count ∙ c.deref_mut.ensures.len) in
    record {
      space = subst (λ xs. IsSpace c.find_if_live.new.self.slots xs s.shapes) (sym items) (subst (λ (x : RegistryState). IsSpace x.slots new s.shapes) (sym c.find_if_live.ensures.same) (space_beside slots slot areas new s.shapes s.shapes c.self.invariant.space beside (λ a laid. laid) c.write_cell.ensures.laid));
      freed = subst (λ xs. AreFreed c.find_if_live.new.self.members xs) (sym items) (subst (λ (x : RegistryState). AreFreed x.members new) (sym c.find_if_live.ensures.same) (freed_beside ms areas new r slot (live_shown ms areas s.shapes slots c.self.invariant.space c.args.self.now.regions view r f.live) f.is beside c.self.invariant.freed));
      count = c.self.invariant.count ∙ ap (λ (x : RegistryState). x.slots) (sym c.find_if_live.ensures.same);
      clear = c.self.invariant.clear;
    }

pub returns-clause-stores : goal.returns-clause-stores
returns-clause-stores g c =
    let s = c.self.inside in
    let back : SFits w64 c.args.shift = search rules in
    let areas = s.areas.items in
    let ms = s.registry.members in
    let slots = s.registry.slots in
    let view = ap (λ (x : SpaceState). x.regions) c.self.view_is in
    let p = c.args.pointer in
    let slot = c.in-Some.slot in
    let f = found ms areas s.shapes slots c.self.invariant.space c.args.self.now.regions view p.region slot c.find_if_live.result c.find_if_live.ensures.slot c.in-Some.is in
    let inside = slot_inside ms areas s.shapes slots c.self.invariant.space c.args.self.now.regions view p.region slot f.live f.is c.find_if_live.ensures.apart in
    let area = area_read areas slot c.index.result.now inside c.index.ensures in
    let element = element_is ms areas s.shapes slots c.self.invariant.space c.args.self.now.regions view p c.args.shift slot f c.index.result.now area c.count-elements.result true (to_z w64 (of_z w64 c.args.shift)) (to_z-of_z back) c.count-elements.ensures c.in-Some-element_at.ensures.0 in
    let i = c.in-Some-element_at.index in
    let new = c.write_cell.new.areas in
    let beside : IsBeside slot areas new = subst (λ xs. IsBeside slot xs new) c.deref_mut.ensures.value c.write_cell.ensures.beside in
    let items = with_items_is s.areas new (c.write_cell.ensures.beside.count ∙ c.deref_mut.ensures.len) in
    let live = live_shown ms areas s.shapes slots c.self.invariant.space c.args.self.now.regions view p.region f.live in
    let objects = objects_with p.object (index_from p c.args.shift) c.args.cell (NumberValue c.args.number) (objects_in c.args.self.now.regions p.region) in
    let fits : SFits w64 c.args.number = search rules in
    let same : objects_of s.shapes (area_at new slot) ≡ objects =
    c.write_cell.ensures.written
    ∙ ap (λ xs. objects_with p.object i c.args.cell (NumberValue (to_z w64 (of_z w64 c.args.number))) (objects_of s.shapes (area_at xs slot))) c.deref_mut.ensures.value
    ∙ ap (objects_with p.object i c.args.cell (NumberValue (to_z w64 (of_z w64 c.args.number)))) (sym (objects_shown ms areas s.shapes slots c.self.invariant.space c.args.self.now.regions view p.region slot f.live f.is))
    ∙ ap (λ n. objects_with p.object n c.args.cell (NumberValue (to_z w64 (of_z w64 c.args.number))) (objects_in c.args.self.now.regions p.region)) (index_by c.args.pointer c.args.shift (to_z w64 (of_z w64 c.args.shift)) c.in-Some-element_at.index (to_z-of_z back) c.in-Some-element_at.ensures.1)
    ∙ ap (λ z. objects_with p.object (index_from p c.args.shift) c.args.cell (NumberValue z) (objects_in c.args.self.now.regions p.region)) (to_z-of_z fits) in (
      (f.live, element),
      ap (λ xs. regions_of c.find_if_live.new.self.members xs s.shapes) items
          ∙ ap (λ (x : RegistryState). regions_of x.members new s.shapes) c.find_if_live.ensures.same
          ∙ regions_beside ms areas new s.shapes s.shapes slots p.region slot objects live f.is (λ n there other e. other (c.find_if_live.ensures.apart.apart n p.region there live (e ∙ f.is))) c.self.invariant.space beside (λ a laid. refl) same
          ∙ ap (with_objects p.region objects) view,
    )

pub returns-clause-whole : goal.returns-clause-whole
returns-clause-whole g c =
    let s = c.self.inside in
    let back : SFits w64 c.args.shift = search rules in
    let areas = s.areas.items in
    let ms = s.registry.members in
    let slots = s.registry.slots in
    let view = ap (λ (x : SpaceState). x.regions) c.self.view_is in
    let p = c.args.pointer in
    let slot = c.in-Some.slot in
    let f = found ms areas s.shapes slots c.self.invariant.space c.args.self.now.regions view p.region slot c.find_if_live.result c.find_if_live.ensures.slot c.in-Some.is in
    let inside = slot_inside ms areas s.shapes slots c.self.invariant.space c.args.self.now.regions view p.region slot f.live f.is c.find_if_live.ensures.apart in
    let area = area_read areas slot c.index.result.now inside c.index.ensures in
    let element = element_is ms areas s.shapes slots c.self.invariant.space c.args.self.now.regions view p c.args.shift slot f c.index.result.now area c.count-elements.result true (to_z w64 (of_z w64 c.args.shift)) (to_z-of_z back) c.count-elements.ensures c.in-Some-element_at.ensures.0 in
    let spot = c.requires.spot (f.live, element) in
    cell_whole ms areas s.shapes slots c.self.invariant.space c.args.self.now.regions view p.region slot f.live f.is (area_at areas slot) refl p.object (index_from p c.args.shift) c.args.cell spot.object spot.cell
