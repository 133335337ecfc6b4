use Rattle.std.proofs.Common.{◌≡◌}
use Rattle.rc_tests_leaves.proofs.facts.first_wrong.Given as goal

abbrev pub invariant-loop-step : goal.invariant-loop-step
invariant-loop-step l = l.set.variables ≡ 3
