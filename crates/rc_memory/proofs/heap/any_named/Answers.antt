use Rattle.std.proofs.Common.{rules, sym, ◌∙◌}
use Rattle.rc_memory.proofs.Lists.{named_on_at, named_past}
use Rattle.rc_memory.proofs.heap.any_named.Goals.{then-number-region+else-region_names, else-number-region}
use Rattle.rc_memory.proofs.heap.any_named.Goals as goal

pub loop-number-preserved : goal.loop-number-preserved
loop-number-preserved c =
    elim c.if-number-region.branch [
      | then-number-region+else-region_names w ↦ named_on_at c.args.region c.loop-number.number c.args.regions.now w.index-regions-number.result w.region_names.result c.loop-number-test.true (search rules) w.region_names.ensures (search rules) ∙ c.loop-number.invariant
      | else-number-region w ↦ sym (named_past c.args.region c.loop-number.number c.args.regions.now c.loop-number-test.true (search rules)) ∙ c.loop-number.invariant
    ]
