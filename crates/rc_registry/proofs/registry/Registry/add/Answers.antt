use Rattle.std.proofs.Common.{◌≡◌, ◌≤◌, ◌+◌, ◌∙◌, ap, sym, subst, rules}
use Rattle.std.specs.Prelude.{max}
use Rattle.rc_registry.specs.Registries.{IsMember, RegistryState, member_in}
use Rattle.rc_registry.specs.Sound.{IsSoundRegistry}
use Rattle.rc_registry.proofs.Added.{slot_handed}
use Rattle.rc_registry.proofs.Sounds.{sound_again, sound_more}
use Rattle.rc_registry.proofs.registry.Registry.add.Goals as goal

pub invariant_of-self-in-Ok : goal.invariant_of-self-in-Ok
invariant_of-self-in-Ok c =
    let view = sym (ap (λ (s : RegistryState). s.members) c.self.view_is) in
    let tree = c.in_ok-slot.ensures in
    let handed : c.max-self-inside.result ≡ max c.self.inside.slots (c.in_ok-slot.slot + 1) = search rules in
    sound_more c.self.inside.directory c.self.inside.tree c.self.inside.slots c.self.invariant c.add.new.self c.in_ok-slot.slot c.slot-parent_slot.result tree.was_free tree.child tree.others tree.used_again tree.grown c.args.parent
    (subst (λ ms. IsMember ms c.args.parent) view c.requires.live) (c.slot-parent_slot.ensures.slot ∙ ap (λ ms. (member_in ms c.args.parent).slot) view) tree.one_more c.push.new.self c.max-self-inside.result c.in-Ok.ensures.ok handed tree.tree

pub invariant_of-self-in-Err : goal.invariant_of-self-in-Err
invariant_of-self-in-Err c =
    let tree = c.in_ok-slot.ensures in
    subst (λ d. IsSoundRegistry d c.remove.new.self c.self.inside.slots) (sym c.in-Err.ensures.err)
    (sound_again c.self.inside.directory c.self.inside.tree c.self.inside.slots c.self.invariant c.add.new.self c.in_ok-slot.slot c.slot-parent_slot.result tree.was_free tree.child tree.others tree.used_again tree.grown
    c.remove.new.self c.remove.ensures.removed c.remove.ensures.one_less tree.one_more c.remove.ensures.tree)

pub returns-in-Ok-clause-handed : goal.returns-in-Ok-clause-handed
returns-in-Ok-clause-handed c =
    let tree = c.in_ok-slot.ensures in
    subst (λ (s : RegistryState). c.in_ok-slot.slot ≤ s.slots) c.self.view_is
    (slot_handed c.self.inside.tree c.add.new.self c.in_ok-slot.slot c.slot-parent_slot.result c.self.inside.slots c.self.invariant.free c.self.invariant.long tree.was_free tree.child tree.others tree.used_again tree.grown)
