use Rattle.std.proofs.Common.{◌∙◌, sym, ap}
use Rattle.rc_space.specs.Spaces.{SpaceState}
use Rattle.rc_store.specs.Stores.{live_in}
use Rattle.rc_space.proofs.Regions.{live_is}
use Rattle.rc_space.proofs.space.Space.is_live.Goals as goal

pub returns : goal.returns
returns g c =
    let s = c.self.inside in
    c.is_live.ensures ∙ sym (live_is s.registry.members s.areas.items s.shapes c.args.region) ∙ ap (λ (x : SpaceState). live_in x.regions c.args.region) c.self.view_is
