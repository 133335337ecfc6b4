use Rattle.std.proofs.Common.{ℕ, List, IsTrue, sym, subst, arith}
use Rattle.rc_stops.specs.Waits.{is_among}
use Rattle.rc_stops.proofs.Queues.{among_last, among_more, below_more, shorter}
use Rattle.rc_stops.proofs.waiting.wake.Goals as goal

pub returns-clause-woken : goal.returns-clause-woken
returns-clause-woken c = subst (λ (ss : List ℕ). IsTrue (is_among ss c.args.at)) (sym c.in_ok-put.ensures) (among_last c.args.waiting.now.items c.args.at)

pub returns-clause-kept : goal.returns-clause-kept
returns-clause-kept c = λ k is. subst (λ (ss : List ℕ). IsTrue (is_among ss k)) (sym c.in_ok-put.ensures) (among_more c.args.waiting.now.items c.args.at k is)

pub returns-clause-below : goal.returns-clause-below
returns-clause-below c = λ n lt below. below_more n c.args.waiting.now.items c.put.new.waiting.items c.args.at c.in_ok-put.ensures lt below

pub returns-clause-count : goal.returns-clause-count
returns-clause-count c = let s = shorter c.put.new.waiting.items c.args.waiting.now.items c.args.at c.in_ok-put.ensures in omega (arith, s)
