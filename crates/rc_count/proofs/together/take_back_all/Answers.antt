use Rattle.std.proofs.Common.{◌<◌, ◌+◌, ◌∙◌, inl, inr, IsTrue, get_or, take, sym, ap, subst, arith}
use Rattle.std.proofs.lemmas.List.{take_all}
use Rattle.rc_store.specs.Stores.{live_in, objects_in}
use Rattle.rc_tally.specs.Tally.{held_refs}
use Rattle.rc_space.specs.Spaces.{count_of}
use Rattle.rc_count.specs.Together.{all_held, cells_among}
use Rattle.rc_count.proofs.Adding.{cells_more, cells_now, either_over, held_more, held_now, held_within}
use Rattle.rc_count.proofs.together.take_back_all.Goals as goal

pub take_back_region-requires-clause-live : goal.take_back_region-requires-clause-live
take_back_region-requires-clause-live g c =
    subst (λ rs. IsTrue (live_in rs (get_or c.args.set.now c.loop-region.region-index 0))) (sym c.loop-region.invariant.regions) (c.requires.live c.loop-region.region-index 0 c.loop-region-test.true)

pub take_back_region-requires-clause-enough : goal.take_back_region-requires-clause-enough
take_back_region-requires-clause-enough g c = λ r.
    let regions = c.args.space.now.regions in
    let within = held_within regions c.args.set.now c.loop-region.region-index c.loop-region-test.true r in
    omega (arith, within, held_now regions c.args.set.now c.loop-region.region-index c.loop-region-test.true c.loop-region.space.regions c.loop-region.invariant.regions r, c.loop-region.invariant.counts r, c.requires.enough r)

pub loop-region-preserved : goal.loop-region-preserved
loop-region-preserved g c =
    let regions = c.args.space.now.regions in
    let set = c.args.set.now in
    let at = c.loop-region.region-index in
    let inside = c.loop-region-test.true in
    let same = c.loop-region.invariant.regions in
    record {
      counts = λ r. omega (arith, held_more regions set at inside r, held_now regions set at inside c.loop-region.space.regions same r, c.loop-region.invariant.counts r, c.take_back_region.ensures.counts r);
      targets = λ r some. elim (either_over (all_held regions (take at set) r) (held_refs r (get_or set at 0) (objects_in regions (get_or set at 0))) (omega (arith, some, held_more regions set at inside r))) [
        | inl old ↦ c.loop-region.invariant.targets r old
        | inr here ↦ subst (λ rs. IsTrue (live_in rs r)) same (c.take_back_region.ensures.live r (omega (arith, here, held_now regions set at inside c.loop-region.space.regions same r, c.take_back_region.ensures.counts r)))
      ];
      regions = c.take_back_region.ensures.regions ∙ same;
      cost = omega (arith, c.loop-region.invariant.cost, c.take_back_region.ensures.cost, cells_more regions set at inside, cells_now regions set at inside c.loop-region.space.regions same);
      never_falls = omega (arith, c.loop-region.invariant.never_falls, c.take_back_region.ensures.never_falls);
    }

pub returns-clause-counts : goal.returns-clause-counts
returns-clause-counts g c = λ r.
    ap (λ xs. count_of c.loop-region.space r + all_held c.args.space.now.regions xs r) (sym (take_all c.loop-region.region-index c.args.set.now c.loop-region-test.false)) ∙ c.loop-region.invariant.counts r

pub returns-clause-targets : goal.returns-clause-targets
returns-clause-targets g c = λ r some.
    c.loop-region.invariant.targets r (subst (λ xs. 0 < all_held c.args.space.now.regions xs r) (sym (take_all c.loop-region.region-index c.args.set.now c.loop-region-test.false)) some)

pub returns-clause-cost : goal.returns-clause-cost
returns-clause-cost g c = omega (arith, c.loop-region.invariant.cost, ap (cells_among c.args.space.now.regions) (take_all c.loop-region.region-index c.args.set.now c.loop-region-test.false))
