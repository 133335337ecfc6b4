use Rattle.rc_reached.proofs.Rows.{Narrowed}
use Rattle.rc_reached.proofs.bits.narrow.Given as goal

abbrev pub invariant-loop-at : goal.invariant-loop-at
invariant-loop-at l = Narrowed l.fn.words l.words l.distance l.at
