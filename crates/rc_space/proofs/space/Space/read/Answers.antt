use Rattle.std.proofs.Common.{◌∙◌, sym, ap, arith}
use Rattle.rc_store.specs.Kept.{KeptObject}
use Rattle.rc_space.specs.Spaces.{SpaceState}
use Rattle.rc_store.specs.Stores.{cell_value}
use Rattle.rc_space.proofs.Shown.{area_object, area_read, cell_inside, cell_whole, heads_many, slot_inside}
use Rattle.rc_space.proofs.space.Space.read.Goals as goal

pub get-requires-clause-object : goal.get-requires-clause-object
get-requires-clause-object g c =
    let s = c.self.inside in
    let view = ap (λ (x : SpaceState). x.regions) c.self.view_is in
    let r = c.args.place.pointer.region in
    let inside = slot_inside s.registry.members s.areas.items s.shapes s.registry.slots c.self.invariant.space c.args.self.now.regions view r c.slot.result c.requires.live c.slot.ensures.slot c.slot.ensures.apart in
    omega (
      arith,
      c.requires.object,
      heads_many s.registry.members s.areas.items s.shapes s.registry.slots c.self.invariant.space c.args.self.now.regions view r c.slot.result c.requires.live c.slot.ensures.slot c.index.result.now (area_read s.areas.items c.slot.result c.index.result.now inside c.index.ensures),
    )

pub get-requires-clause-cell : goal.get-requires-clause-cell
get-requires-clause-cell g c =
    let s = c.self.inside in
    let view = ap (λ (x : SpaceState). x.regions) c.self.view_is in
    let p = c.args.place.pointer in
    let inside = slot_inside s.registry.members s.areas.items s.shapes s.registry.slots c.self.invariant.space c.args.self.now.regions view p.region c.slot.result c.requires.live c.slot.ensures.slot c.slot.ensures.apart in
    cell_inside s.registry.members s.areas.items s.shapes s.registry.slots c.self.invariant.space c.args.self.now.regions view p.region c.slot.result c.requires.live c.slot.ensures.slot c.index.result.now (area_read s.areas.items c.slot.result c.index.result.now inside c.index.ensures)
    p.object p.index c.args.place.cell c.requires.object c.requires.cell

pub returns-clause-value : goal.returns-clause-value
returns-clause-value g c =
    let s = c.self.inside in
    let view = ap (λ (x : SpaceState). x.regions) c.self.view_is in
    let p = c.args.place.pointer in
    let inside = slot_inside s.registry.members s.areas.items s.shapes s.registry.slots c.self.invariant.space c.args.self.now.regions view p.region c.slot.result c.requires.live c.slot.ensures.slot c.slot.ensures.apart in
    c.get.ensures.value
    ∙ ap (λ (o : KeptObject). cell_value o p.index c.args.place.cell) (sym (area_object s.registry.members s.areas.items s.shapes s.registry.slots c.self.invariant.space c.args.self.now.regions view p.region c.slot.result c.requires.live c.slot.ensures.slot c.index.result.now
    (area_read s.areas.items c.slot.result c.index.result.now inside c.index.ensures) p.object))

pub returns-clause-whole : goal.returns-clause-whole
returns-clause-whole g c =
    let s = c.self.inside in
    let view = ap (λ (x : SpaceState). x.regions) c.self.view_is in
    let p = c.args.place.pointer in
    let inside = slot_inside s.registry.members s.areas.items s.shapes s.registry.slots c.self.invariant.space c.args.self.now.regions view p.region c.slot.result c.requires.live c.slot.ensures.slot c.slot.ensures.apart in
    cell_whole s.registry.members s.areas.items s.shapes s.registry.slots c.self.invariant.space c.args.self.now.regions view p.region c.slot.result c.requires.live c.slot.ensures.slot c.index.result.now (area_read s.areas.items c.slot.result c.index.result.now inside c.index.ensures)
    p.object p.index c.args.place.cell c.requires.object c.requires.cell
