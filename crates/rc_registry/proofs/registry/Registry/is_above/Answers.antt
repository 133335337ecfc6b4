use Rattle.std.proofs.Common.{◌∙◌, ap, sym, subst}
use Rattle.rc_core.specs.Heap.{is_above}
use Rattle.rc_registry.specs.Registries.{IsMember, RegistryState, member_in, parent_among}
use Rattle.rc_registry.proofs.Placed.{above_same}
use Rattle.rc_registry.proofs.registry.Registry.is_above.Goals as goal

pub returns-clause-above : goal.returns-clause-above
returns-clause-above g c =
    let view = sym (ap (λ (s : RegistryState). s.members) c.self.view_is) in
    above_same _ c.self.inside.tree c.self.invariant.placed c.self.invariant.tree c.is_above.result c.args.a c.args.b c.slot.result c.slot-2.result (c.slot.ensures.slot ∙ ap (λ ms. (member_in ms c.args.a).slot) view)
    (c.slot-2.ensures.slot ∙ ap (λ ms. (member_in ms c.args.b).slot) view) (subst (λ ms. IsMember ms c.args.a) view c.requires.a) (subst (λ ms. IsMember ms c.args.b) view c.requires.b) c.is_above.ensures.above
    ∙ ap (λ ms. is_above (parent_among ms) c.args.a c.args.b) (sym view)
