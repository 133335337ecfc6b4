use Rattle.std.proofs.Common.{◌+◌, ◌∙◌, IsTrue, get_or, sym, ap, subst, arith}
use Rattle.std.proofs.lemmas.List.{take_all}
use Rattle.rc_store.specs.Stores.{live_in}
use Rattle.rc_space.specs.Spaces.{count_of}
use Rattle.rc_count.specs.Together.{all_held, cells_among}
use Rattle.rc_count.proofs.Adding.{cells_more, cells_now, held_more, held_now, held_within}
use Rattle.rc_count.proofs.together.give_all.Goals as goal

pub give_region-requires-clause-region : goal.give_region-requires-clause-region
give_region-requires-clause-region g c =
    subst (λ rs. IsTrue (live_in rs (get_or c.args.set.now c.loop-region.region-index 0))) (sym c.loop-region.invariant.regions) (c.requires.live c.loop-region.region-index 0 c.loop-region-test.true)

pub give_region-requires-clause-live : goal.give_region-requires-clause-live
give_region-requires-clause-live g c = λ r some.
    let regions = c.args.space.now.regions in
    let at = c.loop-region.region-index in
    let within = held_within regions c.args.set.now at c.loop-region-test.true r in
    let here = held_now regions c.args.set.now at c.loop-region-test.true c.loop-region.space.regions c.loop-region.invariant.regions r in
    subst (λ rs. IsTrue (live_in rs r)) (sym c.loop-region.invariant.regions) (c.requires.targets r (omega (arith, within, here, some)))

pub give_region-requires-clause-few : goal.give_region-requires-clause-few
give_region-requires-clause-few g c = λ r.
    let regions = c.args.space.now.regions in
    let at = c.loop-region.region-index in
    let within = held_within regions c.args.set.now at c.loop-region-test.true r in
    let here = held_now regions c.args.set.now at c.loop-region-test.true c.loop-region.space.regions c.loop-region.invariant.regions r in
    omega (arith, within, here, c.loop-region.invariant.counts r, c.requires.few r)

pub loop-region-preserved : goal.loop-region-preserved
loop-region-preserved g c =
    let regions = c.args.space.now.regions in
    let set = c.args.set.now in
    let at = c.loop-region.region-index in
    let inside = c.loop-region-test.true in
    let same = c.loop-region.invariant.regions in
    record {
      counts = λ r. omega (arith, held_more regions set at inside r, held_now regions set at inside c.loop-region.space.regions same r, c.loop-region.invariant.counts r, c.give_region.ensures.counts r);
      regions = c.give_region.ensures.regions ∙ same;
      cost = omega (arith, c.loop-region.invariant.cost, c.give_region.ensures.cost, cells_more regions set at inside, cells_now regions set at inside c.loop-region.space.regions same);
      never_falls = omega (arith, c.loop-region.invariant.never_falls, c.give_region.ensures.never_falls);
    }

pub returns-clause-counts : goal.returns-clause-counts
returns-clause-counts g c = λ r.
    c.loop-region.invariant.counts r ∙ ap (λ xs. count_of c.args.space.now r + all_held c.args.space.now.regions xs r) (take_all c.loop-region.region-index c.args.set.now c.loop-region-test.false)

pub returns-clause-cost : goal.returns-clause-cost
returns-clause-cost g c = omega (arith, c.loop-region.invariant.cost, ap (cells_among c.args.space.now.regions) (take_all c.loop-region.region-index c.args.set.now c.loop-region-test.false))
