use Rattle.rc_seal.specs.Claiming.{family, AreFirstKnown}
use Rattle.rc_seal.proofs.claims.all_known.Given as goal

abbrev pub invariant-loop-at : goal.invariant-loop-at
invariant-loop-at l = AreFirstKnown l.sets.parts.now (family l.sets) l.at l.all.items
