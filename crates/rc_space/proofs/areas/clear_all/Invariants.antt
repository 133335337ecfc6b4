use Rattle.std.proofs.Common.{◌≡◌, drop}
use Rattle.rc_registry.specs.Registries.{at_slots}
use Rattle.rc_space.specs.Spaces.{no_area}
use Rattle.rc_space.proofs.areas.clear_all.Given as goal

abbrev pub invariant-loop-region : goal.invariant-loop-region
invariant-loop-region g l = at_slots l.registry.members no_area (drop l.region-index l.set) l.areas ≡ at_slots l.registry.members no_area l.set l.fn.areas
