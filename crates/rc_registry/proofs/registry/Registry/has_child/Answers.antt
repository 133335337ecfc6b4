use Rattle.std.proofs.Common.{◌∙◌, ap, sym, subst}
use Rattle.rc_registry.specs.Registries.{IsMember, RegistryState, has_child, member_in}
use Rattle.rc_registry.proofs.Placed.{parent_same}
use Rattle.rc_registry.proofs.registry.Registry.has_child.Goals as goal

pub returns : goal.returns
returns c =
    let view = sym (ap (λ (s : RegistryState). s.members) c.self.view_is) in
    parent_same _ c.self.inside.tree c.self.invariant.placed c.self.invariant.tree c.has_child.result c.args.region c.slot.result (c.slot.ensures.slot ∙ ap (λ ms. (member_in ms c.args.region).slot) view)
    (subst (λ ms. IsMember ms c.args.region) view c.requires.live) c.requires.not_root c.has_child.ensures.child
    ∙ ap (λ ms. has_child ms c.args.region) (sym view)
