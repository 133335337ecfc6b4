use Rattle.std.proofs.Common.{◌<◌, ℕ, get_or}
use Rattle.rc_registry.specs.Registries.{HasUnmarkedChild}
use Rattle.rc_registry.proofs.groups.has_unmarked_child.Given as goal

abbrev pub invariant-loop-region : goal.invariant-loop-region
invariant-loop-region l = (k : ℕ) → k < l.region-index → HasUnmarkedChild l.registry.members (get_or l.set k 0) l.marks → ⊥
