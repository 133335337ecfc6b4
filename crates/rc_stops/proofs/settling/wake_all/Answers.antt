use Rattle.std.proofs.Common.{inl, inr, IsTrue, sym, subst, arith}
use Rattle.rc_stops.specs.Waits.{is_among}
use Rattle.rc_stops.proofs.Linked.{one_further}
use Rattle.rc_stops.proofs.settling.wake_all.Goals as goal

pub loop-at-preserved : goal.loop-at-preserved
loop-at-preserved c = record {
  below = c.in_ok-wake.ensures.below c.args.count c.loop-at-test.true c.loop-at.invariant.below;
  woken = λ k lt. elim (one_further k c.loop-at.at lt) [
    | inl l ↦ c.in_ok-wake.ensures.kept k (c.loop-at.invariant.woken k l)
    | inr e ↦ subst (λ j. IsTrue (is_among c.wake.new.waiting.items j)) (sym e) c.in_ok-wake.ensures.woken
  ];
}

pub returns-clause-below : goal.returns-clause-below
returns-clause-below c = c.loop-at.invariant.below

pub returns-clause-woken : goal.returns-clause-woken
returns-clause-woken c = λ k lt. c.loop-at.invariant.woken k (let f = c.loop-at-test.false in omega (arith, f, lt))
