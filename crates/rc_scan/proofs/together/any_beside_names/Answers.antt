use Rattle.std.proofs.Common.{◌≡◌, refl, sym, None, arith, cond, get_or}
use Rattle.std.proofs.lemmas.List.Sums.{sum_by_more_le, sum_by_more}
use Rattle.rc_store.specs.Kept.{view_refs}
use Rattle.rc_store.specs.Sets.{is_in}
use Rattle.rc_store.specs.Stores.{cells_in}
use Rattle.rc_store.proofs.Along.{beside_along}
use Rattle.rc_scan.proofs.Beside.{refs_step}
use Rattle.rc_scan.proofs.Zero.{none_is_zero}
use Rattle.rc_scan.proofs.together.any_beside_names.Goals as goal

pub loop-i-init : goal.loop-i-init
loop-i-init g c = record {
  left = sym (beside_along c.args.set.now c.args.region c.args.regions.now);
  cost = omega arith;
  never_falls = omega arith;
}

pub loop-i-preserved : goal.loop-i-preserved
loop-i-preserved g c =
    let set = c.args.set.now in
    let regions = c.args.regions.now in
    let step = refs_step set c.args.region c.loop-i.i regions c.loop-i-test.true in
    let none : cond (is_in set c.loop-i.i) 0 (view_refs c.args.region (get_or regions c.loop-i.i None)) ≡ 0
    = none_is_zero (cond (is_in set c.loop-i.i) 0 (view_refs c.args.region (get_or regions c.loop-i.i None))) (λ some. (let is = c.if-beside_names.ensures.found.1 some in cc)) in
    record {
      left = omega (arith, step, none, c.loop-i.invariant.left);
      cost = omega (arith, sum_by_more cells_in regions c.loop-i.i None c.loop-i-test.true, c.loop-i.invariant.cost, c.if-beside_names.ensures.cost);
      never_falls = omega (arith, c.loop-i.invariant.never_falls, c.if-beside_names.ensures.never_falls);
    }

pub returns-then-beside_names-clause-found : goal.returns-then-beside_names-clause-found
returns-then-beside_names-clause-found g c =
    let step = refs_step c.args.set.now c.args.region c.loop-i.i c.args.regions.now c.loop-i-test.true in
    let some = c.if-beside_names.ensures.found.0 refl in
    ((λ _. omega (arith, step, some, c.loop-i.invariant.left)), (λ _. refl))

pub returns-then-beside_names-clause-cost : goal.returns-then-beside_names-clause-cost
returns-then-beside_names-clause-cost g c =
    omega (arith, sum_by_more_le cells_in c.args.regions.now c.loop-i.i None c.loop-i-test.true, c.loop-i.invariant.cost, c.beside_names.ensures.cost)
