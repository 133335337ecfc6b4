use Rattle.std.proofs.Common.{◌∙◌, get_or, ap}
use Rattle.rc_space.specs.Spaces.{SpaceState}
use Rattle.rc_store.specs.Sets.{has_child_outside}
use Rattle.rc_space.proofs.Sets.{outside_same}
use Rattle.rc_space.proofs.Shown.{live_shown}
use Rattle.rc_space.proofs.space.Space.has_child_outside.Goals as goal

pub returns-clause-child : goal.returns-clause-child
returns-clause-child g c =
    let s = c.self.inside in
    outside_same s.registry.members s.areas.items s.shapes c.args.set.now c.has_child_outside.result c.has_child_outside.ensures.child
    ∙ ap (λ (x : SpaceState). has_child_outside c.args.set.now x.regions) c.self.view_is

pub has_child_outside-requires-clause-live : goal.has_child_outside-requires-clause-live
has_child_outside-requires-clause-live g c =
    let s = c.self.inside in
    let view = ap (λ (x : SpaceState). x.regions) c.self.view_is in
    λ k d inside. live_shown s.registry.members s.areas.items s.shapes s.registry.slots c.self.invariant.space c.args.self.now.regions view (get_or c.args.set.now k d) (c.requires.live k d inside)
