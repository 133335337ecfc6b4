use Rattle.std.proofs.lemmas.List.{take_rest}
use Rattle.rc_replies.proofs.Lines.{cut_line, last_line, passed}
use Rattle.rc_replies.proofs.line.next_line.Goals as goal

pub returns-then-text-at-eq10-clause-first : goal.returns-then-text-at-eq10-clause-first
returns-then-text-at-eq10-clause-first c = rw take_rest (cut_line c.args.text.now c.loop-at.at c.loop-at-test.true c.if-text-at-eq10.true c.loop-at.invariant)

pub loop-at-preserved : goal.loop-at-preserved
loop-at-preserved c = passed c.args.text.now c.loop-at.at c.loop-at-test.true c.if-text-at-eq10.false c.loop-at.invariant

pub returns-clause-first : goal.returns-clause-first
returns-clause-first c = last_line c.args.text.now c.requires c.loop-at.at c.loop-at-test.false c.loop-at.invariant
