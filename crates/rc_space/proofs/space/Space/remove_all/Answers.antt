use Rattle.std.proofs.Common.{◌∙◌, length, get_or, sym, ap, subst}
use Rattle.std.proofs.lemmas.Bool.{false≢true}
use Rattle.std.proofs.lemmas.List.{with_items_is}
use Rattle.rc_store.specs.Sets.{has_child_outside, without}
use Rattle.rc_registry.specs.Registries.{at_slots}
use Rattle.rc_registry.specs.Groups.{AreClear}
use Rattle.rc_space.specs.Spaces.{AreFreed, IsSpace, SpaceState, no_area, regions_of}
use Rattle.rc_space.proofs.Sets.{freed_left, outside_shown, regions_left, space_left}
use Rattle.rc_space.proofs.Shown.{live_shown}
use Rattle.rc_space.proofs.space.Space.remove_all.Goals as goal

pub clear_all-requires-clause-live : goal.clear_all-requires-clause-live
clear_all-requires-clause-live g c =
    let s = c.self.inside in
    let view = ap (λ (x : SpaceState). x.regions) c.self.view_is in
    λ k d inside. live_shown s.registry.members s.areas.items s.shapes s.registry.slots c.self.invariant.space c.args.self.now.regions view (get_or c.args.set.now k d) (c.requires.live k d inside)

pub remove_all-requires-clause-live : goal.remove_all-requires-clause-live
remove_all-requires-clause-live g c =
    let s = c.self.inside in
    let view = ap (λ (x : SpaceState). x.regions) c.self.view_is in
    λ k d inside. live_shown s.registry.members s.areas.items s.shapes s.registry.slots c.self.invariant.space c.args.self.now.regions view (get_or c.args.set.now k d) (c.requires.live k d inside)

pub remove_all-requires-clause-closed : goal.remove_all-requires-clause-closed
remove_all-requires-clause-closed g c =
    let s = c.self.inside in
    λ has. false≢true (sym c.requires.closed ∙ ap (λ (x : SpaceState). has_child_outside c.args.set.now x.regions) (sym c.self.view_is) ∙ outside_shown s.registry.members s.areas.items s.shapes c.args.set.now has)

pub invariant_of-self : goal.invariant_of-self
invariant_of-self g c =
    let s = c.self.inside in
    let areas = s.areas.items in
    let ms = s.registry.members in
    let set = c.args.set.now in
    let left = at_slots ms no_area set areas in
    let all = with_items_is s.areas c.clear_all.new.areas (c.clear_all.auto.areas ∙ c.deref_mut.ensures.len) ∙ c.clear_all.ensures ∙ ap (at_slots ms no_area set) c.deref_mut.ensures.value in
    let marks = with_items_is s.marks c.remove_all.new.marks (c.remove_all.auto.marks ∙ c.deref_mut-2.ensures.len) in
    let space = space_left ms areas s.shapes set s.registry.slots c.self.invariant.space c.remove_all.ensures.apart (λ k d inside. live_shown ms areas s.shapes s.registry.slots c.self.invariant.space c.args.self.now.regions (ap (λ (x : SpaceState). x.regions) c.self.view_is) (get_or set k d) (c.requires.live k d inside)) in
    let freed = freed_left ms areas s.shapes set s.registry.slots c.self.invariant.space c.remove_all.ensures.apart (λ k d inside. live_shown ms areas s.shapes s.registry.slots c.self.invariant.space c.args.self.now.regions (ap (λ (x : SpaceState). x.regions) c.self.view_is) (get_or set k d) (c.requires.live k d inside)) c.self.invariant.freed in
    record {
      space = subst (λ xs. IsSpace c.remove_all.new.registry.slots xs s.shapes) (sym all) (subst (λ n. IsSpace n left s.shapes) (sym c.remove_all.ensures.slots) space);
      freed = subst (λ xs. AreFreed c.remove_all.new.registry.members xs) (sym all) (subst (λ x. AreFreed x left) (sym c.remove_all.ensures.members) freed);
      count = ap length marks ∙ c.remove_all.auto.marks ∙ ap length c.deref_mut-2.ensures.value ∙ c.self.invariant.count ∙ sym c.remove_all.ensures.slots;
      clear = subst AreClear (sym marks) c.remove_all.ensures.clear;
    }

pub returns-clause-regions : goal.returns-clause-regions
returns-clause-regions g c =
    let s = c.self.inside in
    let areas = s.areas.items in
    let ms = s.registry.members in
    let set = c.args.set.now in
    let left = at_slots ms no_area set areas in
    let all = with_items_is s.areas c.clear_all.new.areas (c.clear_all.auto.areas ∙ c.deref_mut.ensures.len) ∙ c.clear_all.ensures ∙ ap (at_slots ms no_area set) c.deref_mut.ensures.value in
    ap (λ xs. regions_of c.remove_all.new.registry.members xs s.shapes) all
    ∙ ap (λ x. regions_of x left s.shapes) c.remove_all.ensures.members
    ∙ regions_left ms areas s.shapes set s.registry.slots c.self.invariant.space c.remove_all.ensures.apart (λ k d inside. live_shown ms areas s.shapes s.registry.slots c.self.invariant.space c.args.self.now.regions (ap (λ (x : SpaceState). x.regions) c.self.view_is) (get_or set k d) (c.requires.live k d inside))
    ∙ ap (λ (x : SpaceState). without set x.regions) c.self.view_is
