use Rattle.std.proofs.Common.{◌<◌, ℕ, subst}
use Rattle.rc_registry.specs.Registries.{IsMember, RegistryState, count_in}
use Rattle.rc_registry.proofs.Members.{counted_live}
use Rattle.rc_registry.proofs.registry.Registry.take_back_area.Goals as goal

pub returns-clause-live : goal.returns-clause-live
returns-clause-live g c = subst (λ (x : RegistryState). (r : ℕ) → 0 < count_in x r → IsMember x.members r) c.self.view_is (counted_live c.self.inside.directory)
