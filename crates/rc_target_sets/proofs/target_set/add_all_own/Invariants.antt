use Rattle.rc_target_sets.specs.Shut.{HasMore}
use Rattle.rc_target_sets.proofs.target_set.add_all_own.Given as goal

abbrev pub invariant-loop-x : goal.invariant-loop-x
invariant-loop-x l = HasMore l.x l.fn.set l.set
