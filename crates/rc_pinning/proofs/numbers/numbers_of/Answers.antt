use Rattle.std.proofs.Common.{◌≡◌, ℕ, List, ◌+◌, ◌∙◌, sym, ap, arith, map, length, refl}
use Rattle.rc_code.specs.Soundness.{is_regional}
use Rattle.rc_claims.specs.Counts.{one_if}
use Rattle.rc_image_counts.proofs.Counting.{trues_none, count_more, small_more}
use Rattle.rc_pinning.proofs.Counting.{long_more, each_more, numbers_all}
use Rattle.rc_pinning.proofs.numbers.numbers_of.Goals as goal

pub loop-at-init : goal.loop-at-init
loop-at-init c = record { count = sym (trues_none (map is_regional c.args.locals.now)); small = omega arith; long = ap (λ (ns : List ℕ). length ns) c.new-numbers.ensures.items; each = λ x lt. absurd (omega (arith, lt)) }

pub loop-at-preserved : goal.loop-at-preserved
loop-at-preserved c =
    let new = c.count_on-more.ensures ∙ ap (λ b. c.loop-at.count + one_if b) c.is_regional.ensures in
    record {
      count = count_more c.args.locals.now c.loop-at.at c.loop-at.count c.count_on-more.result _ _ c.loop-at-test.true refl c.loop-at.invariant.count new;
      small = small_more c.loop-at.count c.count_on-more.result c.loop-at.at _ c.loop-at.invariant.small new;
      long = long_more c.loop-at.numbers.items c.put.new.out.items c.loop-at.count c.loop-at.at c.in_ok-put.ensures c.loop-at.invariant.long;
      each = each_more c.args.locals.now c.loop-at.at c.loop-at.count c.loop-at.numbers.items c.put.new.out.items c.in_ok-put.ensures c.loop-at.invariant.long c.loop-at.invariant.count c.loop-at.invariant.each;
    }

pub returns : goal.returns
returns c =
    let last : c.loop-at.at ≡ length c.args.locals.now = (let f = c.loop-at-test.false in let e = c.loop-at.auto.at-end in omega (arith, f, e)) in
    numbers_all c.args.locals.now c.loop-at.at c.loop-at.numbers.items last c.loop-at.invariant.long c.loop-at.invariant.each
