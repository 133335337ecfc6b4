use Rattle.std.proofs.Common.{◌≡◌, ◌∙◌, ap, sym, subst, false, get_or, map, set, None}
use Rattle.rc_slots.specs.Entries.{counted, members_of}
use Rattle.rc_registry.specs.Registries.{IsMember, RegistryState, count_in, has_child, member_in}
use Rattle.rc_registry.proofs.Sounds.{counts_left, members_left, sound_left}
use Rattle.rc_registry.proofs.registry.Registry.remove.Goals as goal

pub invariant_of-self : goal.invariant_of-self
invariant_of-self c =
    let view = sym (ap (λ (s : RegistryState). s.members) c.self.view_is) in
    sound_left c.self.inside.directory c.self.inside.tree c.self.inside.slots c.self.invariant c.args.region c.slot-slot.result (subst (λ ms. IsMember ms c.args.region) view c.requires.live) c.requires.not_root
    (subst (λ ms. has_child ms c.args.region ≡ false) view c.requires.childless) (c.slot-slot.ensures.slot ∙ ap (λ ms. (member_in ms c.args.region).slot) view) c.clear.new.self c.remove.new.self c.clear.ensures c.remove.ensures.removed c.remove.ensures.one_less c.remove.ensures.tree

pub returns-clause-members : goal.returns-clause-members
returns-clause-members c = ap members_of c.clear.ensures ∙ members_left c.self.inside.directory c.args.region ∙ ap (λ (s : RegistryState). set s.members c.args.region None) c.self.view_is

pub returns-clause-counts : goal.returns-clause-counts
returns-clause-counts c = λ n.
    ap (λ es. get_or (map counted es) n 0) c.clear.ensures
    ∙ counts_left c.self.inside.directory c.args.region n (ap (λ s. count_in s c.args.region) c.self.view_is ∙ c.requires.unnamed)
    ∙ ap (λ s. count_in s n) c.self.view_is
