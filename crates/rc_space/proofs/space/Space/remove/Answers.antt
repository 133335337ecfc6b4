use Rattle.std.proofs.Common.{◌∙◌, None, set, refl, sym, ap, subst}
use Rattle.rc_space.specs.Spaces.{SpaceState, area_at, regions_of}
use Rattle.std.specs.List.{list_any}
use Rattle.std.proofs.lemmas.List.{with_items_is}
use Rattle.rc_areas.specs.Areas.{IsLaid, objects_of}
use Rattle.rc_space.specs.Spaces.{AreFreed, IsBeside, IsSpace}
use Rattle.rc_store.specs.Stores.{is_child}
use Rattle.rc_store.proofs.Changed.{objects_gone}
use Rattle.rc_space.proofs.Regions.{child_is, regions_less}
use Rattle.rc_space.proofs.Shown.{live_shown}
use Rattle.rc_space.proofs.Grown.{empty_laid, freed_less, regions_beside, space_beside}
use Rattle.rc_space.proofs.space.Space.remove.Goals as goal

pub remove-requires-clause-childless : goal.remove-requires-clause-childless
remove-requires-clause-childless g c =
    let s = c.self.inside in
    sym (child_is s.areas.items s.shapes s.registry.members c.args.region) ∙ ap (λ (x : SpaceState). list_any (is_child c.args.region) x.regions) c.self.view_is ∙ c.requires.childless

pub invariant_of-self : goal.invariant_of-self
invariant_of-self g c =
    let s = c.self.inside in
    let areas = s.areas.items in
    let ms = s.registry.members in
    let slots = s.registry.slots in
    let view = ap (λ (x : SpaceState). x.regions) c.self.view_is in
    let r = c.args.region in
    let slot = c.slot-slot.result in
    let new = c.clear.new.areas in
    let beside : IsBeside slot areas new = subst (λ xs. IsBeside slot xs new) c.deref_mut.ensures.value c.clear.ensures.beside in
    let items = with_items_is s.areas new (c.clear.ensures.beside.count ∙ c.deref_mut.ensures.len) in
    let space = space_beside slots slot areas new s.shapes s.shapes c.self.invariant.space beside (λ a laid. laid) (subst (IsLaid s.shapes) (sym c.clear.ensures.empty) (empty_laid s.shapes)) in
    record {
      space = subst (λ xs. IsSpace c.remove.new.self.slots xs s.shapes) (sym items) (subst (λ n. IsSpace n new s.shapes) (sym c.remove.ensures.slots) space);
      freed = subst (λ xs. AreFreed c.remove.new.self.members xs) (sym items) (subst (λ x. AreFreed x new) (sym c.remove.ensures.members) (freed_less ms areas new r slot c.slot-slot.ensures.slot beside c.clear.ensures.empty c.self.invariant.freed));
      count = c.self.invariant.count ∙ sym c.remove.ensures.slots;
      clear = c.self.invariant.clear;
    }

pub returns-clause-regions : goal.returns-clause-regions
returns-clause-regions g c =
    let s = c.self.inside in
    let areas = s.areas.items in
    let ms = s.registry.members in
    let slots = s.registry.slots in
    let view = ap (λ (x : SpaceState). x.regions) c.self.view_is in
    let r = c.args.region in
    let slot = c.slot-slot.result in
    let new = c.clear.new.areas in
    let beside : IsBeside slot areas new = subst (λ xs. IsBeside slot xs new) c.deref_mut.ensures.value c.clear.ensures.beside in
    let items = with_items_is s.areas new (c.clear.ensures.beside.count ∙ c.deref_mut.ensures.len) in
    let live = live_shown ms areas s.shapes slots c.self.invariant.space c.args.self.now.regions view r c.requires.live in
    let changed = regions_beside ms areas new s.shapes s.shapes slots r slot (objects_of s.shapes (area_at new slot)) live c.slot-slot.ensures.slot (λ n there other e. other (c.slot-slot.ensures.apart.apart n r there live (e ∙ c.slot-slot.ensures.slot))) c.self.invariant.space beside (λ a laid. refl) refl in
    ap (λ xs. regions_of c.remove.new.self.members xs s.shapes) items
    ∙ ap (λ x. regions_of x new s.shapes) c.remove.ensures.members
    ∙ regions_less new s.shapes ms r
    ∙ ap (λ x. set x r None) changed
    ∙ objects_gone r _ (regions_of ms areas s.shapes)
    ∙ ap (λ x. set x r None) view
