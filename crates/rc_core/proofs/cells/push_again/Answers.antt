use Rattle.std.proofs.Common.{arith}
use Rattle.rc_core.proofs.CellLoops.{again_step}
use Rattle.rc_core.proofs.cells.push_again.Goals as goal

pub loop-at-preserved : goal.loop-at-preserved
loop-at-preserved c =
    again_step c.args.kinds.now.items c.loop-at.kinds.items c.push.new.kinds.items c.args.start c.loop-at.at c.index.result.now c.in_ok-kind.kind c.loop-at.invariant.0 c.loop-at.auto.at (omega (arith, c.requires.end, c.loop-at-test.true)) c.loop-at.invariant.1 c.index.ensures c.in_ok-kind.ensures c.in_ok-push.ensures
