use Rattle.std.proofs.Common.{subst}
use Rattle.rc_registry.specs.Registries.{AreOlder, IsApart, RegistryState}
use Rattle.rc_registry.proofs.Placed.{parents_older}
use Rattle.rc_registry.proofs.registry.Registry.set_marks.Goals as goal

pub returns-clause-apart : goal.returns-clause-apart
returns-clause-apart c = subst (λ (x : RegistryState). IsApart x.members x.slots) c.self.view_is (record { below = c.self.invariant.below; apart = c.self.invariant.placed.apart })

pub returns-clause-older : goal.returns-clause-older
returns-clause-older c = subst (λ (x : RegistryState). AreOlder x.members) c.self.view_is (parents_older _ c.self.inside.tree c.self.invariant.placed c.self.invariant.tree)
