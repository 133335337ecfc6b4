use Rattle.std.proofs.Common.{IsTrue, suc, sym, subst, arith, length}
use Rattle.rc_stops.specs.Waits.{is_among, IsFirst}
use Rattle.rc_stops.proofs.Linked.{walked, walked_all}
use Rattle.rc_stops.proofs.settling.wake_leading.Goals as goal

pub links-init : goal.links-init
links-init c =
    let f : IsFirst c.args.stops.now c.args.at 0 c.first_to-k.result = subst (IsFirst c.args.stops.now c.args.at 0) (sym c.first_to-k.ensures) (c.requires.links.links.firsts c.args.at c.requires.at) in
    record {
      below = c.requires.below;
      within = f.within;
      leads = f.leads;
      done = λ j lt is. absurd (f.least j (omega arith) lt is);
      kept = λ j w. w;
      count = omega arith;
    }

pub links-preserved : goal.links-preserved
links-preserved c =
    let i = c.links.invariant in
    let f : IsFirst c.args.stops.now c.args.at (suc c.links.k) c.next_of-next.result =
    subst (IsFirst c.args.stops.now c.args.at (suc c.links.k)) (sym c.next_of-next.ensures) (c.requires.links.links.nexts c.links.k c.args.at (omega arith) c.links-test.true (i.leads c.links-test.true)) in
    record {
      below = c.in_ok-wake.ensures.below (length c.args.stops.now) c.links-test.true i.below;
      within = f.within;
      leads = f.leads;
      done = walked c.args.stops.now c.args.at c.links.k c.next_of-next.result (λ j. IsTrue (is_among c.wake.new.waiting.items j)) f c.in_ok-wake.ensures.woken (λ j lt is. c.in_ok-wake.ensures.kept j (i.done j lt is));
      kept = λ j w. c.in_ok-wake.ensures.kept j (i.kept j w);
      count = (let n = c.in_ok-wake.ensures.count in let m = i.count in let l = f.later in omega (arith, n, m, l));
    }

pub returns-clause-woken : goal.returns-clause-woken
returns-clause-woken c = walked_all c.args.stops.now c.args.at c.links.k (λ j. IsTrue (is_among c.links.waiting.items j)) (let f = c.links-test.false in omega (arith, f)) c.links.invariant.done
