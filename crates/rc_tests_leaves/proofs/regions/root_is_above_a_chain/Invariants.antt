use Rattle.std.proofs.Common.{◌≡◌, ◌+◌}
use Rattle.rc_regions.specs.Above.{IsTree}
use Rattle.rc_regions.specs.Slots.{IsLive, live_slots}
use Rattle.rc_tests_leaves.proofs.regions.root_is_above_a_chain.Given as goal

abbrev pub invariant-loop-above : goal.invariant-loop-above
invariant-loop-above l = record { tree : IsTree l.tree; last : IsLive l.tree l.last; live : live_slots l.tree ≡ l.above + 1 }
