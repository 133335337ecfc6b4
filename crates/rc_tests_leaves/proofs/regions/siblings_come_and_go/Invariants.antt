use Rattle.std.proofs.Common.{◌≡◌}
use Rattle.rc_regions.specs.Above.{IsTree}
use Rattle.rc_regions.specs.Slots.{IsLive, live_slots}
use Rattle.rc_tests_leaves.proofs.regions.siblings_come_and_go.Given as goal

abbrev pub invariant-loop-order : goal.invariant-loop-order
invariant-loop-order l = record { tree : IsTree l.tree; parent : IsLive l.tree l.parent; live : live_slots l.tree ≡ 2 }
