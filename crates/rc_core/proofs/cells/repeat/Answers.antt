use Rattle.std.proofs.Common.{arith}
use Rattle.rc_core.proofs.CellLoops.{repeat_step}
use Rattle.rc_core.proofs.cells.repeat.Goals as goal

pub loop-copy-preserved : goal.loop-copy-preserved
loop-copy-preserved c =
    repeat_step c.args.kinds.now.items c.loop-copy.kinds.items c.push_again.new.kinds.items c.args.start c.len-end.result c.loop-copy._copy c.requires.started (omega (arith, c.args.kinds.now.ok.0, c.len-end.ensures)) c.loop-copy.auto._copy c.loop-copy.invariant.0 c.loop-copy.invariant.1 c.in_ok-push_again.ensures
