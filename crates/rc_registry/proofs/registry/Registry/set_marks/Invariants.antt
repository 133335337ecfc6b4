use Rattle.std.proofs.Common.{◌≡◌, drop}
use Rattle.rc_registry.specs.Registries.{at_slots}
use Rattle.rc_registry.proofs.registry.Registry.set_marks.Given as goal

abbrev pub invariant-loop-region : goal.invariant-loop-region
invariant-loop-region l = at_slots l.self.members l.mark (drop l.region-index l.set) l.marks ≡ at_slots l.self.members l.mark l.set l.fn.marks
