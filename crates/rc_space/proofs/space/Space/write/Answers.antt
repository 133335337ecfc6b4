use Rattle.std.proofs.Common.{◌≡◌, ◌<◌, ◌∙◌, IsTrue, length, get_or, refl, sym, ap, subst, arith}
use Rattle.rc_space.specs.Spaces.{SpaceState, area_at, regions_of}
use Rattle.std.proofs.lemmas.List.{with_items_is}
use Rattle.rc_store.specs.Values.{suits, value_of}
use Rattle.rc_store.specs.Stores.{HasCell, cell_place, no_object}
use Rattle.rc_core.specs.declared.layouts.Kind.TheVariants.{Number as NumberKind}
use Rattle.rc_areas.specs.Areas.{objects_of}
use Rattle.rc_registry.specs.Registries.{RegistryState}
use Rattle.rc_space.specs.Spaces.{AreFreed, IsBeside, IsSpace}
use Rattle.rc_store.specs.Stores.{objects_in, objects_with, with_objects}
use Rattle.rc_space.proofs.Shown.{area_object, cell_whole, heads_many, live_shown, objects_shown}
use Rattle.rc_space.proofs.Grown.{freed_beside, regions_beside, space_beside}
use Rattle.rc_space.proofs.space.Space.write.Goals as goal

pub write_cell-requires-clause-object : goal.write_cell-requires-clause-object
write_cell-requires-clause-object g c =
    let s = c.self.inside in
    let areas = s.areas.items in
    let ms = s.registry.members in
    let slots = s.registry.slots in
    let view = ap (λ (x : SpaceState). x.regions) c.self.view_is in
    let r = c.args.place.pointer.region in
    let slot = c.find-slot.result in
    let spot = c.requires.spot in
    let below : c.args.place.pointer.object < length (area_at areas slot).heads = omega (arith, spot.object, heads_many ms areas s.shapes slots c.self.invariant.space c.args.self.now.regions view r slot spot.live c.find-slot.ensures.slot (area_at areas slot) refl) in
    subst (λ xs. c.args.place.pointer.object < length (area_at xs slot).heads) (sym c.deref_mut.ensures.value) below

pub write_cell-requires-clause-cell : goal.write_cell-requires-clause-cell
write_cell-requires-clause-cell g c =
    let s = c.self.inside in
    let areas = s.areas.items in
    let ms = s.registry.members in
    let slots = s.registry.slots in
    let view = ap (λ (x : SpaceState). x.regions) c.self.view_is in
    let r = c.args.place.pointer.region in
    let slot = c.find-slot.result in
    let spot = c.requires.spot in
    subst (λ xs. HasCell (get_or (objects_of s.shapes (area_at xs slot)) c.args.place.pointer.object no_object) c.args.place.pointer.index c.args.place.cell) (sym c.deref_mut.ensures.value)
    (subst (λ o. HasCell o c.args.place.pointer.index c.args.place.cell) (area_object ms areas s.shapes slots c.self.invariant.space c.args.self.now.regions view r slot spot.live c.find-slot.ensures.slot (area_at areas slot) refl c.args.place.pointer.object) spot.cell)

pub write_cell-requires-clause-suits : goal.write_cell-requires-clause-suits
write_cell-requires-clause-suits g c =
    let s = c.self.inside in
    let areas = s.areas.items in
    let ms = s.registry.members in
    let slots = s.registry.slots in
    let view = ap (λ (x : SpaceState). x.regions) c.self.view_is in
    let r = c.args.place.pointer.region in
    let slot = c.find-slot.result in
    let spot = c.requires.spot in
    let p = c.args.place.pointer in
    subst (λ xs. let o = get_or (objects_of s.shapes (area_at xs slot)) p.object no_object in IsTrue (suits (get_or o.kinds (cell_place o p.index c.args.place.cell) NumberKind) (value_of c.args.value))) (sym c.deref_mut.ensures.value)
    (subst (λ o. IsTrue (suits (get_or o.kinds (cell_place o p.index c.args.place.cell) NumberKind) (value_of c.args.value))) (area_object ms areas s.shapes slots c.self.invariant.space c.args.self.now.regions view r slot spot.live c.find-slot.ensures.slot (area_at areas slot) refl c.args.place.pointer.object) c.requires.suits)

pub invariant_of-self : goal.invariant_of-self
invariant_of-self g c =
    let s = c.self.inside in
    let areas = s.areas.items in
    let ms = s.registry.members in
    let slots = s.registry.slots in
    let view = ap (λ (x : SpaceState). x.regions) c.self.view_is in
    let r = c.args.place.pointer.region in
    let slot = c.find-slot.result in
    let spot = c.requires.spot in
    let new = c.write_cell.new.areas in
    let beside : IsBeside slot areas new = subst (λ xs. IsBeside slot xs new) c.deref_mut.ensures.value c.write_cell.ensures.beside in
    let items = with_items_is s.areas new (c.write_cell.ensures.beside.count ∙ c.deref_mut.ensures.len) in
    record {
      space = subst (λ xs. IsSpace c.find-slot.new.self.slots xs s.shapes) (sym items) (subst (λ (x : RegistryState). IsSpace x.slots new s.shapes) (sym c.find-slot.ensures.same) (space_beside slots slot areas new s.shapes s.shapes c.self.invariant.space beside (λ a laid. laid) c.write_cell.ensures.laid));
      freed = subst (λ xs. AreFreed c.find-slot.new.self.members xs) (sym items) (subst (λ (x : RegistryState). AreFreed x.members new) (sym c.find-slot.ensures.same) (freed_beside ms areas new r slot (live_shown ms areas s.shapes slots c.self.invariant.space c.args.self.now.regions view r spot.live) c.find-slot.ensures.slot beside c.self.invariant.freed));
      count = c.self.invariant.count ∙ ap (λ (x : RegistryState). x.slots) (sym c.find-slot.ensures.same);
      clear = c.self.invariant.clear;
    }

pub returns-clause-written : goal.returns-clause-written
returns-clause-written g c =
    let s = c.self.inside in
    let areas = s.areas.items in
    let ms = s.registry.members in
    let slots = s.registry.slots in
    let view = ap (λ (x : SpaceState). x.regions) c.self.view_is in
    let r = c.args.place.pointer.region in
    let slot = c.find-slot.result in
    let spot = c.requires.spot in
    let new = c.write_cell.new.areas in
    let beside : IsBeside slot areas new = subst (λ xs. IsBeside slot xs new) c.deref_mut.ensures.value c.write_cell.ensures.beside in
    let items = with_items_is s.areas new (c.write_cell.ensures.beside.count ∙ c.deref_mut.ensures.len) in
    let p = c.args.place.pointer in
    let live = live_shown ms areas s.shapes slots c.self.invariant.space c.args.self.now.regions view r spot.live in
    let objects = objects_with p.object p.index c.args.place.cell (value_of c.args.value) (objects_in c.args.self.now.regions r) in
    let same : objects_of s.shapes (area_at new slot) ≡ objects =
    c.write_cell.ensures.written
    ∙ ap (λ xs. objects_with p.object p.index c.args.place.cell (value_of c.args.value) (objects_of s.shapes (area_at xs slot))) c.deref_mut.ensures.value
    ∙ ap (objects_with p.object p.index c.args.place.cell (value_of c.args.value)) (sym (objects_shown ms areas s.shapes slots c.self.invariant.space c.args.self.now.regions view r slot spot.live c.find-slot.ensures.slot)) in
    ap (λ xs. regions_of c.find-slot.new.self.members xs s.shapes) items
    ∙ ap (λ (x : RegistryState). regions_of x.members new s.shapes) c.find-slot.ensures.same
    ∙ regions_beside ms areas new s.shapes s.shapes slots r slot objects live c.find-slot.ensures.slot (λ n there other e. other (c.find-slot.ensures.apart.apart n r there live (e ∙ c.find-slot.ensures.slot))) c.self.invariant.space beside (λ a laid. refl) same
    ∙ ap (with_objects r objects) view

pub returns-clause-whole : goal.returns-clause-whole
returns-clause-whole g c =
    let s = c.self.inside in
    let areas = s.areas.items in
    let ms = s.registry.members in
    let slots = s.registry.slots in
    let view = ap (λ (x : SpaceState). x.regions) c.self.view_is in
    let r = c.args.place.pointer.region in
    let slot = c.find-slot.result in
    let spot = c.requires.spot in
    cell_whole ms areas s.shapes slots c.self.invariant.space c.args.self.now.regions view r slot spot.live c.find-slot.ensures.slot (area_at areas slot) refl c.args.place.pointer.object c.args.place.pointer.index c.args.place.cell spot.object spot.cell
