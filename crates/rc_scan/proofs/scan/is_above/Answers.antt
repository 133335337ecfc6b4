use Rattle.std.proofs.Common.{arith, ◌≡◌, ◌+◌, ◌-◌, suc, sym, ap, ◌∙◌}
use Rattle.rc_core.specs.Heap.{is_above_within}
use Rattle.rc_store.specs.Stores.{parent_in}
use Rattle.rc_scan.proofs.Above.{above_on}
use Rattle.rc_scan.proofs.scan.is_above.Goals as goal

pub loop-preserved : goal.loop-preserved
loop-preserved g c =
    let e : c.args.b - c.loop.counter ≡ suc (c.args.b - (c.loop.counter + 1)) = omega (arith, c.loop-test.true) in
    let on = above_on (parent_in c.args.regions.now) _ _ c.args.a c.loop.at e c.if-at-a.false c.if-at-eq0.false in
    ap (is_above_within (parent_in c.args.regions.now) (c.args.b - (c.loop.counter + 1)) c.args.a) c.parent-at.ensures ∙ sym on ∙ c.loop.invariant
