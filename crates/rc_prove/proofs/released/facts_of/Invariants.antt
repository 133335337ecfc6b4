use Rattle.std.proofs.Common.{◌≡◌}
use Rattle.rc_prove.proofs.released.facts_of.Given as goal

abbrev pub invariant-loop-set : goal.invariant-loop-set
invariant-loop-set l = l.all.items ≡ l.yielded
