use Rattle.std.proofs.Common.{sym, inl, inr, arith, length}
use Rattle.rc_stops.proofs.settling.wake_before.Goals as goal

pub returns-clause-below : goal.returns-clause-below
returns-clause-below c = c.in_ok-wake_falling.ensures.below (length c.args.stops.now) c.requires.at c.in_ok-wake_leading.ensures.below

pub returns-clause-woken : goal.returns-clause-woken
returns-clause-woken c = λ k l. elim l [
  | inl p ↦ c.in_ok-wake_falling.ensures.woken k (sym p.1)
  | inr e ↦ c.in_ok-wake_falling.ensures.kept k (c.in_ok-wake_leading.ensures.woken k e)
]

pub returns-clause-kept : goal.returns-clause-kept
returns-clause-kept c = λ k w. c.in_ok-wake_falling.ensures.kept k (c.in_ok-wake_leading.ensures.kept k w)

pub returns-clause-count : goal.returns-clause-count
returns-clause-count c = let n = c.in_ok-wake_leading.ensures.count in let m = c.in_ok-wake_falling.ensures.count in omega (arith, n, m)
