use Rattle.std.proofs.Common.{◌∙◌, sym, ap, arith}
use Rattle.rc_store.specs.Kept.{KeptObject}
use Rattle.rc_space.specs.Spaces.{SpaceState}
use Rattle.rc_space.proofs.Shown.{area_object, area_read, heads_many, slot_inside}
use Rattle.rc_space.proofs.space.Space.elements.Goals as goal

pub count-requires-clause-object : goal.count-requires-clause-object
count-requires-clause-object g c =
    let s = c.self.inside in
    let view = ap (λ (x : SpaceState). x.regions) c.self.view_is in
    let inside = slot_inside s.registry.members s.areas.items s.shapes s.registry.slots c.self.invariant.space c.args.self.now.regions view c.args.region c.slot.result c.requires.live c.slot.ensures.slot c.slot.ensures.apart in
    omega (
      arith,
      c.requires.object,
      heads_many s.registry.members s.areas.items s.shapes s.registry.slots c.self.invariant.space c.args.self.now.regions view c.args.region c.slot.result c.requires.live c.slot.ensures.slot c.index.result.now (area_read s.areas.items c.slot.result c.index.result.now inside c.index.ensures),
    )

pub returns : goal.returns
returns g c =
    let s = c.self.inside in
    let view = ap (λ (x : SpaceState). x.regions) c.self.view_is in
    let inside = slot_inside s.registry.members s.areas.items s.shapes s.registry.slots c.self.invariant.space c.args.self.now.regions view c.args.region c.slot.result c.requires.live c.slot.ensures.slot c.slot.ensures.apart in
    c.count.ensures
    ∙ ap (λ (o : KeptObject). o.count) (sym (area_object s.registry.members s.areas.items s.shapes s.registry.slots c.self.invariant.space c.args.self.now.regions view c.args.region c.slot.result c.requires.live c.slot.ensures.slot c.index.result.now
    (area_read s.areas.items c.slot.result c.index.result.now inside c.index.ensures) c.args.object))
