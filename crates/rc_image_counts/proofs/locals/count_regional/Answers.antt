use Rattle.std.proofs.Common.{◌≡◌, ◌+◌, ◌∙◌, refl, sym, ap, arith, map, length}
use Rattle.rc_code.specs.Soundness.{is_regional}
use Rattle.rc_claims.specs.Counts.{one_if, trues}
use Rattle.rc_image_counts.proofs.Counting.{trues_none, count_more, small_more}
use Rattle.rc_image_counts.proofs.locals.count_regional.Goals as goal

pub loop-at-init : goal.loop-at-init
loop-at-init c = record { count = sym (trues_none (map is_regional c.args.locals.now)); small = omega arith }

pub loop-at-preserved : goal.loop-at-preserved
loop-at-preserved c =
    let new = c.count_on-more.ensures ∙ ap (λ b. c.loop-at.count + one_if b) c.is_regional.ensures in
    record {
      count = count_more c.args.locals.now c.loop-at.at c.loop-at.count c.count_on-more.result _ _ c.loop-at-test.true refl c.loop-at.invariant.count new;
      small = small_more c.loop-at.count c.count_on-more.result c.loop-at.at _ c.loop-at.invariant.small new;
    }

pub returns-clause-count : goal.returns-clause-count
returns-clause-count c =
    let last : c.loop-at.at ≡ length c.args.locals.now = (let f = c.loop-at-test.false in let e = c.loop-at.auto.at-end in omega (arith, f, e)) in
    c.loop-at.invariant.count ∙ ap (trues (map is_regional c.args.locals.now)) last
