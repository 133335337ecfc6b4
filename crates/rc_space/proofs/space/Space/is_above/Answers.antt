use Rattle.std.proofs.Common.{◌∙◌, sym, ap}
use Rattle.rc_space.specs.Spaces.{SpaceState}
use Rattle.rc_core.specs.Heap.{is_above}
use Rattle.rc_store.specs.Stores.{parent_in}
use Rattle.rc_space.proofs.Regions.{is_above_is}
use Rattle.rc_space.proofs.space.Space.is_above.Goals as goal

pub returns-clause-above : goal.returns-clause-above
returns-clause-above g c =
    let s = c.self.inside in
    c.is_above.ensures.above ∙ sym (is_above_is s.registry.members s.areas.items s.shapes c.args.a c.args.b) ∙ ap (λ (x : SpaceState). is_above (parent_in x.regions) c.args.a c.args.b) c.self.view_is
