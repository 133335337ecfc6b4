use Rattle.std.proofs.Common.{◌≡◌, ◌<◌, ◌+◌, ◌∙◌, sym, ap, subst, arith}
use Rattle.rc_store.specs.Stores.{objects_in}
use Rattle.rc_areas.specs.Areas.{objects_of}
use Rattle.rc_tally.specs.Tally.{held_refs}
use Rattle.rc_space.specs.Spaces.{SpaceState, count_of}
use Rattle.rc_space.proofs.Shown.{area_objects, area_read, cells_many, live_shown, slot_inside}
use Rattle.rc_space.proofs.space.Space.give_region.Goals as goal

pub returns-clause-cost : goal.returns-clause-cost
returns-clause-cost g c =
    let s = c.self.inside in
    let areas = s.areas.items in
    let ms = s.registry.members in
    let slots = s.registry.slots in
    let view = ap (λ (x : SpaceState). x.regions) c.self.view_is in
    let inside = slot_inside ms areas s.shapes slots c.self.invariant.space c.args.self.now.regions view c.args.region c.slot.result c.requires.region c.slot.ensures.slot c.slot.ensures.apart in
    let many = cells_many ms areas s.shapes slots c.self.invariant.space c.args.self.now.regions view c.args.region c.slot.result c.requires.region c.slot.ensures.slot c.index-area.result.now (area_read areas c.slot.result c.index-area.result.now inside c.index-area.ensures) in
    omega (arith, c.give_area.ensures.cost, many)

pub give_area-requires-clause-live : goal.give_area-requires-clause-live
give_area-requires-clause-live g c =
    let s = c.self.inside in
    let areas = s.areas.items in
    let ms = s.registry.members in
    let slots = s.registry.slots in
    let view = ap (λ (x : SpaceState). x.regions) c.self.view_is in
    let inside = slot_inside ms areas s.shapes slots c.self.invariant.space c.args.self.now.regions view c.args.region c.slot.result c.requires.region c.slot.ensures.slot c.slot.ensures.apart in
    let objects : objects_in c.args.self.now.regions c.args.region ≡ objects_of s.shapes c.index-area.result.now = area_objects ms areas s.shapes slots c.self.invariant.space c.args.self.now.regions view c.args.region c.slot.result c.requires.region c.slot.ensures.slot c.index-area.result.now (area_read areas c.slot.result c.index-area.result.now inside c.index-area.ensures) in
    λ r some. live_shown ms areas s.shapes slots c.self.invariant.space c.args.self.now.regions view r (c.requires.live r (subst (λ os. 0 < held_refs r c.args.region os) (sym objects) some))

pub returns-clause-counts : goal.returns-clause-counts
returns-clause-counts g c =
    let s = c.self.inside in
    let areas = s.areas.items in
    let ms = s.registry.members in
    let slots = s.registry.slots in
    let view = ap (λ (x : SpaceState). x.regions) c.self.view_is in
    let inside = slot_inside ms areas s.shapes slots c.self.invariant.space c.args.self.now.regions view c.args.region c.slot.result c.requires.region c.slot.ensures.slot c.slot.ensures.apart in
    let objects : objects_in c.args.self.now.regions c.args.region ≡ objects_of s.shapes c.index-area.result.now = area_objects ms areas s.shapes slots c.self.invariant.space c.args.self.now.regions view c.args.region c.slot.result c.requires.region c.slot.ensures.slot c.index-area.result.now (area_read areas c.slot.result c.index-area.result.now inside c.index-area.ensures) in
    λ r.
    c.give_area.ensures.given.counts r
    ∙ ap (λ n. n + held_refs r c.args.region (objects_of s.shapes c.index-area.result.now)) (ap (λ (x : SpaceState). count_of x r) c.self.view_is)
    ∙ ap (λ os. count_of c.args.self.now r + held_refs r c.args.region os) (sym objects)
