use Rattle.std.proofs.Common.{◌+◌, ◌∙◌, ap, arith, map, length, refl}
use Rattle.rc_code.specs.Soundness.{is_regional}
use Rattle.rc_claims.specs.Counts.{one_if, trues}
use Rattle.rc_image_counts.proofs.Counting.{trues_none}
use Rattle.rc_image_shapes.proofs.Counting.{variable_more, long_more, each_more}
use Rattle.rc_image_shapes.proofs.tables.local_variables.Goals as goal

pub loop-at-init : goal.loop-at-init
loop-at-init c =
    let t = trues_none (map is_regional c.args.locals.now) in
    record { variable = omega (arith, t); long = ap length c.in_ok-table.ensures.items; each = λ x lt. absurd (omega (arith, lt)) }

pub count_on-next-requires : goal.count_on-next-requires
count_on-next-requires c =
    let v = c.loop-at.invariant.variable in
    let r = c.requires c.loop-at.at in
    omega (arith, v, r)

pub loop-at-preserved : goal.loop-at-preserved
loop-at-preserved c =
    let new = c.count_on-next.ensures ∙ ap (λ b. c.loop-at.variable + one_if b) c.is_regional.ensures in
    record {
      variable = variable_more c.args.locals.now c.args.copies c.loop-at.at c.loop-at.variable c.count_on-next.result _ _ c.loop-at-test.true refl c.loop-at.invariant.variable new;
      long = long_more c.loop-at.table.items c.put.new.out.items c.loop-at.variable c.loop-at.at c.in_ok-put.ensures c.loop-at.invariant.long;
      each = each_more (λ x. c.args.copies + trues (map is_regional c.args.locals.now) x) c.loop-at.at c.loop-at.variable c.loop-at.table.items c.put.new.out.items c.in_ok-put.ensures c.loop-at.invariant.long c.loop-at.invariant.variable c.loop-at.invariant.each;
    }
