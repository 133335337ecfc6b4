use Rattle.rc_fact_bits.proofs.Framing.{Framed}
use Rattle.rc_fact_bits.proofs.frames.frames_of.Given as goal

abbrev pub invariant-loop-at : goal.invariant-loop-at
invariant-loop-at l = Framed l.n l.sets l.targets l.at l.next l.frames.items
