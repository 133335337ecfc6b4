use Rattle.std.proofs.Common.{◌∙◌, sym, ap}
use Rattle.rc_space.specs.Spaces.{SpaceState}
use Rattle.std.specs.List.{list_any}
use Rattle.rc_store.specs.Stores.{is_child}
use Rattle.rc_space.proofs.Regions.{child_is}
use Rattle.rc_space.proofs.space.Space.has_child.Goals as goal

pub returns : goal.returns
returns g c =
    let s = c.self.inside in
    c.has_child.ensures ∙ sym (child_is s.areas.items s.shapes s.registry.members c.args.region) ∙ ap (λ (x : SpaceState). list_any (is_child c.args.region) x.regions) c.self.view_is
