use Rattle.std.proofs.Common.{◌≡◌}
use Rattle.rc_regions.specs.Above.{IsTree}
use Rattle.rc_regions.specs.Slots.{live_slots}
use Rattle.rc_tests_leaves.proofs.regions.one_slot_is_enough.Given as goal

abbrev pub invariant-loop : goal.invariant-loop
invariant-loop l = record { tree : IsTree l.tree; live : live_slots l.tree ≡ 1 }
