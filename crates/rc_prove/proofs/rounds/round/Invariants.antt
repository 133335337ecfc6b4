use Rattle.rc_prove.specs.Family.{family_of, Rounded}
use Rattle.rc_prove.proofs.rounds.round.Given as goal

abbrev pub invariant-loop-at : goal.invariant-loop-at
invariant-loop-at l = Rounded l.routes l.at (family_of l.fn.entries l.fn.exits l.fn.frames) (family_of l.entries l.exits l.frames) l.lost
