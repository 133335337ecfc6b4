use Rattle.std.proofs.Common.{◌≡◌}
use Rattle.rc_tests_leaves.proofs.closed.lead_to_one.Given as goal

abbrev pub invariant-loop-fact : goal.invariant-loop-fact
invariant-loop-fact l = (l.set.variables ≡ 4) × (l.other.variables ≡ 4)
