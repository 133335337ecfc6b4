use Rattle.std.proofs.Common.{◌∙◌, ap, sym, subst, arith}
use Rattle.std.specs.Prelude.{◌↔◌, IsTrue}
use Rattle.rc_registry.specs.Registries.{HasUnmarkedChild, IsMember, RegistryState, member_in}
use Rattle.rc_registry.proofs.Placed.{unmarked_same}
use Rattle.rc_registry.proofs.registry.Registry.has_unmarked_child.Goals as goal

pub has_unmarked_child-requires-clause-marks : goal.has_unmarked_child-requires-clause-marks
has_unmarked_child-requires-clause-marks c = λ s live.
    let there = c.self.invariant.placed.all s live in
    omega (arith, c.self.invariant.below there.0 there.1, there.2, c.requires.room, ap (λ (x : RegistryState). x.slots) c.self.view_is)

pub returns : goal.returns
returns c =
    let view = sym (ap (λ (s : RegistryState). s.members) c.self.view_is) in
    subst (λ ms. IsTrue c.has_unmarked_child.result ↔ HasUnmarkedChild ms c.args.region c.args.marks.now) (sym view)
    (unmarked_same _ c.self.inside.tree c.self.invariant.placed c.self.invariant.tree c.args.marks.now c.has_unmarked_child.result c.args.region c.slot.result (c.slot.ensures.slot ∙ ap (λ ms. (member_in ms c.args.region).slot) view)
    (subst (λ ms. IsMember ms c.args.region) view c.requires.live) c.requires.not_root c.has_unmarked_child.ensures)
