use Rattle.rc_graph.proofs.Headings.{grew_on, same_heads}
use Rattle.rc_graph.proofs.heads.mark_calls.Goals as goal

pub loop-at-init : goal.loop-at-init
loop-at-init c = same_heads c.args.heads.now

pub loop-at-preserved : goal.loop-at-preserved
loop-at-preserved c = grew_on c.args.heads.now c.loop-at.heads c.mark_call.new.heads c.loop-at.invariant c.mark_call.ensures
