use Rattle.std.proofs.Common.{◌≡◌, ◌+◌, refl, subst, arith}
use Rattle.rc_claims.specs.Counts.{one_if}
use Rattle.rc_prove_ways.proofs.Counting.{count_none, count_more, all_counted}
use Rattle.rc_prove_ways.proofs.ranks.ranks_of.Goals as goal

pub loop-at-init : goal.loop-at-init
loop-at-init c = count_none c.args.targets.now c.in_ok-ranks.ranks.items c.in_ok-ranks.ensures.items

pub loop-at-preserved : goal.loop-at-preserved
loop-at-preserved c =
    count_more c.args.targets.now c.loop-at.at (c.loop-at.at + 1) c.loop-at.count c.count_on-more.result c.loop-at.ranks.items c.put.new.out.items refl c.in_ok-put.ensures
    (subst (λ b. c.count_on-more.result ≡ c.loop-at.count + one_if b) c.is_marked.ensures c.count_on-more.ensures) c.loop-at.invariant

pub returns : goal.returns
returns c =
    let f = c.loop-at-test.false in
    let e = c.loop-at.auto.at-end in
    all_counted c.args.targets.now c.loop-at.at c.loop-at.count c.loop-at.ranks.items (omega (arith, f, e)) c.loop-at.invariant
