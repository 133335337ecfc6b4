use Rattle.std.proofs.Common.{◌<◌, ◌+◌, ◌∙◌, length, drop, get_or, set as slice_set, sym, ap, arith}
use Rattle.std.proofs.lemmas.List.{at_drop_more}
use Rattle.rc_registry.specs.Registries.{at_slots}
use Rattle.rc_space.specs.Spaces.{no_area}
use Rattle.rc_space.proofs.Sets.{area_emptied}
use Rattle.rc_space.proofs.areas.clear_all.Goals as goal

pub loop-region-preserved : goal.loop-region-preserved
loop-region-preserved g c =
    let ms = c.args.registry.now.members in
    let set = c.args.set.now in
    let at = c.loop-region.region-index in
    let areas = c.loop-region.areas in
    let live = c.requires.live at 0 c.loop-region-test.true in
    let inside : c.slot.result < length areas = omega (arith, c.slot.ensures.slot, c.slot.ensures.apart.below (get_or set at 0) live, c.requires.areas, c.loop-region.auto.areas) in
    ap (at_slots ms no_area (drop (at + 1) set)) (area_emptied c.slot.result areas c.clear.new.areas inside c.clear.ensures.beside c.clear.ensures.empty ∙ ap (λ s. slice_set areas s no_area) c.slot.ensures.slot)
    ∙ sym (at_drop_more (λ xs. at_slots ms no_area xs areas) set at 0 c.loop-region-test.true)
    ∙ c.loop-region.invariant
