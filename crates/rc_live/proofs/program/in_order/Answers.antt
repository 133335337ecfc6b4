use Rattle.std.proofs.Common.{sym, ◌∙◌}
use Rattle.rc_live.proofs.Programs.{held_written, all_written}
use Rattle.rc_live.proofs.program.in_order.Goals as goal

pub loop-held-preserved : goal.loop-held-preserved
loop-held-preserved c =
    let l = c.loop-held in
    held_written c.args.much c.deref_mut-held-items.result.now l.held-items l.held-index c.saturating_sub-held.result c.held-item.result c.loop-held-test.true c.saturating_sub-held.ensures l.invariant

pub returns : goal.returns
returns c =
    let l = c.loop-held in
    all_written c.args.much c.args.lists.items c.deref_mut-held-items.result.now l.held-items _ l.held-index c.reverse.new.self.len (c.deref_mut-held-items.ensures.value ∙ c.reverse.ensures.items) l.auto.held-items (sym c.deref_mut-held-items.ensures.len) c.loop-held-test.false l.invariant
