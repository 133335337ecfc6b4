use Rattle.rc_prove.specs.Family.{family_of}
use Rattle.rc_prove.specs.Starting.{IsBegun}
use Rattle.rc_prove.proofs.start.full.Given as goal

abbrev pub invariant-loop-at : goal.invariant-loop-at
invariant-loop-at l = IsBegun l.counts l.at (family_of l.claims.entries.items l.claims.exits.items l.claims.frames.items)
