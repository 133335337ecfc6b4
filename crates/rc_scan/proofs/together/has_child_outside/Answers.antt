use Rattle.std.proofs.Common.{◌∙◌, ◌<◌, length, rules, sym}
use Rattle.rc_store.proofs.Along.{child_along}
use Rattle.rc_scan.proofs.Beside.{child_step}
use Rattle.rc_scan.proofs.together.has_child_outside.Goals as goal

pub loop-i-init : goal.loop-i-init
loop-i-init g c = sym (child_along c.args.set.now c.args.regions.now)

pub loop-i-preserved : goal.loop-i-preserved
loop-i-preserved g c =
    let below : c.loop-i.i < length c.args.regions.now = search rules in
    child_step c.args.set.now c.loop-i.i c.args.regions.now below (sym c.is_child_outside.ensures ∙ c.if-is_child_outside.false) ∙ c.loop-i.invariant
