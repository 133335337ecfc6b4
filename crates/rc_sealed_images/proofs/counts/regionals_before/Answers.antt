use Rattle.std.proofs.Common.{◌+◌, ◌<◌, ◌≤◌, map, length, sym, subst, arith}
use Rattle.rc_code.specs.Soundness.{is_regional}
use Rattle.rc_sealed_images.proofs.Loops.{trues_none, count_more, few_more}
use Rattle.rc_sealed_images.proofs.counts.regionals_before.Goals as goal

pub loop-at-init : goal.loop-at-init
loop-at-init c = record { count = sym (trues_none (map is_regional c.args.locals.now)); few = omega arith }

pub loop-at-preserved : goal.loop-at-preserved
loop-at-preserved c =
    let there : c.loop-at.at < length c.args.locals.now = omega (arith, c.loop-at-test.true, c.requires) in
    record {
      count = count_more c.args.locals.now c.loop-at.at c.loop-at.count c.count_on-count.result c.is_regional.result _ there c.loop-at.invariant.count c.is_regional.ensures c.count_on-count.ensures;
      few = subst (λ n. n ≤ c.loop-at.at + 1) (sym c.count_on-count.ensures) (few_more c.loop-at.count c.loop-at.at c.is_regional.result c.loop-at.invariant.few);
    }
