use Rattle.std.proofs.Common.{arith}
use Rattle.std.proofs.lemmas.List.{get_or_read}
use Rattle.rc_facts.proofs.RowLoops.{written_all}
use Rattle.rc_facts.proofs.RowLaws.{shift_all, beyond_both}
use Rattle.rc_facts.proofs.rows.shift.Goals as goal

pub returns : goal.returns
returns c =
    rw (get_or_read c.loop-row.rows c.args.from c.index-rows-from.result (omega arith) c.index-rows-from.is 0)
    (shift_all c.args.rows.now c.loop-row.rows c.args.from c.args.to c.empty.result c.requires.apart (omega arith) (omega arith) c.empty.ensures
    (written_all c.loop-row.rows c.loop-row.row-index c.loop-row.invariant (λ x y beyond. beyond_both c.args.rows.now x y _ _ (omega arith))))
