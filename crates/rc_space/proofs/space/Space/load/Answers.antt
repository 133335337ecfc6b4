use Rattle.std.proofs.Common.{◌∙◌, false, true, ap, rules, arith, w64, of_z, to_z, SFits, to_z-of_z}
use Rattle.rc_space.specs.Spaces.{SpaceState}
use Rattle.rc_space.proofs.Pointed.{cell_of, element_is, found, index_by, value_of_cell}
use Rattle.rc_space.proofs.Shown.{area_read, heads_many, slot_inside}
use Rattle.rc_space.proofs.space.Space.load.Goals as goal

pub count-elements-requires-clause-object : goal.count-elements-requires-clause-object
count-elements-requires-clause-object g c =
    let s = c.self.inside in
    let back : SFits w64 c.args.shift = search rules in
    let view = ap (λ (x : SpaceState). x.regions) c.self.view_is in
    let r = c.args.pointer.region in
    let f = found s.registry.members s.areas.items s.shapes s.registry.slots c.self.invariant.space c.args.self.now.regions view r c.in-Some.slot c.slot_if_live.result c.slot_if_live.ensures.slot c.in-Some.is in
    let inside = slot_inside s.registry.members s.areas.items s.shapes s.registry.slots c.self.invariant.space c.args.self.now.regions view r c.in-Some.slot f.live f.is c.slot_if_live.ensures.apart in
    omega (
      arith,
      c.requires.object f.live,
      heads_many s.registry.members s.areas.items s.shapes s.registry.slots c.self.invariant.space c.args.self.now.regions view r c.in-Some.slot f.live f.is c.index-area.result.now (area_read s.areas.items c.in-Some.slot c.index-area.result.now inside c.index-area.ensures),
    )

pub returns-in_default-element_at-clause-loads : goal.returns-in_default-element_at-clause-loads
returns-in_default-element_at-clause-loads g c =
    let s = c.self.inside in
    let back : SFits w64 c.args.shift = search rules in
    let view = ap (λ (x : SpaceState). x.regions) c.self.view_is in
    let r = c.args.pointer.region in
    let f = found s.registry.members s.areas.items s.shapes s.registry.slots c.self.invariant.space c.args.self.now.regions view r c.in-Some.slot c.slot_if_live.result c.slot_if_live.ensures.slot c.in-Some.is in
    let inside = slot_inside s.registry.members s.areas.items s.shapes s.registry.slots c.self.invariant.space c.args.self.now.regions view r c.in-Some.slot f.live f.is c.slot_if_live.ensures.apart in (
      f.live,
      element_is s.registry.members s.areas.items s.shapes s.registry.slots c.self.invariant.space c.args.self.now.regions view c.args.pointer c.args.shift c.in-Some.slot f c.index-area.result.now (area_read s.areas.items c.in-Some.slot c.index-area.result.now inside c.index-area.ensures)
          c.count-elements.result false (to_z w64 (of_z w64 c.args.shift)) (to_z-of_z back) c.count-elements.ensures c.in_default-element_at.ensures,
    )

pub get-requires-clause-object : goal.get-requires-clause-object
get-requires-clause-object g c =
    let s = c.self.inside in
    let back : SFits w64 c.args.shift = search rules in
    let view = ap (λ (x : SpaceState). x.regions) c.self.view_is in
    let r = c.args.pointer.region in
    let f = found s.registry.members s.areas.items s.shapes s.registry.slots c.self.invariant.space c.args.self.now.regions view r c.in-Some.slot c.slot_if_live.result c.slot_if_live.ensures.slot c.in-Some.is in
    let inside = slot_inside s.registry.members s.areas.items s.shapes s.registry.slots c.self.invariant.space c.args.self.now.regions view r c.in-Some.slot f.live f.is c.slot_if_live.ensures.apart in
    omega (
      arith,
      c.requires.object f.live,
      heads_many s.registry.members s.areas.items s.shapes s.registry.slots c.self.invariant.space c.args.self.now.regions view r c.in-Some.slot f.live f.is c.index-area.result.now (area_read s.areas.items c.in-Some.slot c.index-area.result.now inside c.index-area.ensures),
    )

pub get-requires-clause-cell : goal.get-requires-clause-cell
get-requires-clause-cell g c =
    let s = c.self.inside in
    let back : SFits w64 c.args.shift = search rules in
    let view = ap (λ (x : SpaceState). x.regions) c.self.view_is in
    let r = c.args.pointer.region in
    let f = found s.registry.members s.areas.items s.shapes s.registry.slots c.self.invariant.space c.args.self.now.regions view r c.in-Some.slot c.slot_if_live.result c.slot_if_live.ensures.slot c.in-Some.is in
    let inside = slot_inside s.registry.members s.areas.items s.shapes s.registry.slots c.self.invariant.space c.args.self.now.regions view r c.in-Some.slot f.live f.is c.slot_if_live.ensures.apart in
    let area = area_read s.areas.items c.in-Some.slot c.index-area.result.now inside c.index-area.ensures in
    let element = element_is s.registry.members s.areas.items s.shapes s.registry.slots c.self.invariant.space c.args.self.now.regions view c.args.pointer c.args.shift c.in-Some.slot f c.index-area.result.now area c.count-elements.result true (to_z w64 (of_z w64 c.args.shift)) (to_z-of_z back) c.count-elements.ensures c.in-Some-element_at.ensures.0 in
    cell_of s.registry.members s.areas.items s.shapes s.registry.slots c.self.invariant.space c.args.self.now.regions view c.args.pointer c.args.shift c.in-Some.slot f c.index-area.result.now area
    c.in-Some-element_at.index c.args.cell (index_by c.args.pointer c.args.shift (to_z w64 (of_z w64 c.args.shift)) c.in-Some-element_at.index (to_z-of_z back) c.in-Some-element_at.ensures.1) (c.requires.spot (f.live, element))

pub returns-clause-loads : goal.returns-clause-loads
returns-clause-loads g c =
    let s = c.self.inside in
    let back : SFits w64 c.args.shift = search rules in
    let view = ap (λ (x : SpaceState). x.regions) c.self.view_is in
    let r = c.args.pointer.region in
    let f = found s.registry.members s.areas.items s.shapes s.registry.slots c.self.invariant.space c.args.self.now.regions view r c.in-Some.slot c.slot_if_live.result c.slot_if_live.ensures.slot c.in-Some.is in
    let inside = slot_inside s.registry.members s.areas.items s.shapes s.registry.slots c.self.invariant.space c.args.self.now.regions view r c.in-Some.slot f.live f.is c.slot_if_live.ensures.apart in
    let area = area_read s.areas.items c.in-Some.slot c.index-area.result.now inside c.index-area.ensures in
    let element = element_is s.registry.members s.areas.items s.shapes s.registry.slots c.self.invariant.space c.args.self.now.regions view c.args.pointer c.args.shift c.in-Some.slot f c.index-area.result.now area c.count-elements.result true (to_z w64 (of_z w64 c.args.shift)) (to_z-of_z back) c.count-elements.ensures c.in-Some-element_at.ensures.0 in (
      (f.live, element),
      c.get.ensures.value ∙ value_of_cell s.registry.members s.areas.items s.shapes s.registry.slots c.self.invariant.space c.args.self.now.regions view c.args.pointer c.args.shift c.in-Some.slot f c.index-area.result.now area
          c.in-Some-element_at.index c.args.cell (index_by c.args.pointer c.args.shift (to_z w64 (of_z w64 c.args.shift)) c.in-Some-element_at.index (to_z-of_z back) c.in-Some-element_at.ensures.1),
    )
