use Rattle.rc_prove.specs.Family.{family_of, facts_of, Lessened}
use Rattle.rc_prove.proofs.settling.settle.Given as goal

abbrev pub invariant-losses : goal.invariant-losses
invariant-losses l = Lessened l.routes (family_of l.fn.entries l.fn.exits l.fn.frames) (family_of l.entries l.exits l.frames)

abbrev pub decreases-losses : goal.decreases-losses
decreases-losses l = facts_of (family_of l.entries l.exits l.frames)
