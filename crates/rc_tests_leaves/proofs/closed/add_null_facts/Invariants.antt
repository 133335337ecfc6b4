use Rattle.std.proofs.Common.{◌≡◌}
use Rattle.rc_tests_leaves.proofs.closed.add_null_facts.Given as goal

abbrev pub invariant-loop-other : goal.invariant-loop-other
invariant-loop-other l = l.set.variables ≡ 4
