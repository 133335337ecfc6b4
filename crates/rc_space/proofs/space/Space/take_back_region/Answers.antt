use Rattle.std.proofs.Common.{◌≡◌, ◌<◌, ◌+◌, ◌∙◌, ℕ, IsTrue, ap, subst, arith}
use Rattle.rc_store.specs.Stores.{live_in, objects_in}
use Rattle.rc_areas.specs.Areas.{objects_of}
use Rattle.rc_registry.specs.Registries.{count_in}
use Rattle.rc_tally.specs.Tally.{held_refs}
use Rattle.rc_space.specs.Spaces.{SpaceState, count_of}
use Rattle.rc_space.proofs.Regions.{live_is}
use Rattle.rc_space.proofs.Shown.{area_objects, area_read, cells_many, slot_inside}
use Rattle.rc_space.proofs.space.Space.take_back_region.Goals as goal

pub returns-clause-cost : goal.returns-clause-cost
returns-clause-cost g c =
    let s = c.self.inside in
    let areas = s.areas.items in
    let ms = s.registry.members in
    let slots = s.registry.slots in
    let view = ap (λ (x : SpaceState). x.regions) c.self.view_is in
    let inside = slot_inside ms areas s.shapes slots c.self.invariant.space c.args.self.now.regions view c.args.region c.slot.result c.requires.live c.slot.ensures.slot c.slot.ensures.apart in
    let many = cells_many ms areas s.shapes slots c.self.invariant.space c.args.self.now.regions view c.args.region c.slot.result c.requires.live c.slot.ensures.slot c.index-area.result.now (area_read areas c.slot.result c.index-area.result.now inside c.index-area.ensures) in
    omega (arith, c.take_back_area.ensures.cost, many)

pub returns-clause-live : goal.returns-clause-live
returns-clause-live g c =
    let s = c.self.inside in
    subst (λ (x : SpaceState). (r : ℕ) → 0 < count_of x r → IsTrue (live_in x.regions r)) c.self.view_is
    (λ r some. live_is s.registry.members s.areas.items s.shapes r ∙ c.take_back_area.ensures.live r some)

pub returns-clause-counts : goal.returns-clause-counts
returns-clause-counts g c =
    let s = c.self.inside in
    let areas = s.areas.items in
    let ms = s.registry.members in
    let slots = s.registry.slots in
    let view = ap (λ (x : SpaceState). x.regions) c.self.view_is in
    let inside = slot_inside ms areas s.shapes slots c.self.invariant.space c.args.self.now.regions view c.args.region c.slot.result c.requires.live c.slot.ensures.slot c.slot.ensures.apart in
    let objects : objects_in c.args.self.now.regions c.args.region ≡ objects_of s.shapes c.index-area.result.now = area_objects ms areas s.shapes slots c.self.invariant.space c.args.self.now.regions view c.args.region c.slot.result c.requires.live c.slot.ensures.slot c.index-area.result.now (area_read areas c.slot.result c.index-area.result.now inside c.index-area.ensures) in
    λ r.
    ap (λ os. count_in c.take_back_area.new.self r + held_refs r c.args.region os) objects
    ∙ c.take_back_area.ensures.taken.counts r
    ∙ ap (λ (x : SpaceState). count_of x r) c.self.view_is
