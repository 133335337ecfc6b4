use Rattle.std.proofs.Common.{◌≡◌, ◌-◌, IsTrue, subst, arith}
use Rattle.rc_stops.specs.Waits.{is_among}
use Rattle.rc_stops.proofs.Linked.{none_before}
use Rattle.rc_stops.proofs.settling.wake_falling.Goals as goal

pub returns-then-first-clause-below : goal.returns-then-first-clause-below
returns-then-first-clause-below c = λ n lt below. below

pub returns-clause-below : goal.returns-clause-below
returns-clause-below c = λ n lt below. c.in_ok-wake.ensures.below n (omega (arith, lt)) below

pub returns-then-first-clause-woken : goal.returns-then-first-clause-woken
returns-then-first-clause-woken c = λ k e. absurd (none_before c.args.at k c.if-first.true e)

pub returns-clause-woken : goal.returns-clause-woken
returns-clause-woken c = λ k e. (let q : c.args.at - 1 ≡ k = omega (arith, e) in subst (λ j. IsTrue (is_among c.wake.new.waiting.items j)) q c.in_ok-wake.ensures.woken)
