use Rattle.rc_prove.specs.Family.{family_of, facts_of, Lessened}
use Rattle.rc_prove.proofs.rounds.search.Given as goal

abbrev pub invariant-rounds : goal.invariant-rounds
invariant-rounds l = Lessened l.routes (family_of l.fn.entries l.fn.exits l.fn.frames) (family_of l.entries l.exits l.frames)

abbrev pub decreases-rounds : goal.decreases-rounds
decreases-rounds l = facts_of (family_of l.entries l.exits l.frames)
