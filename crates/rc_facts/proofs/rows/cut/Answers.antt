use Rattle.std.proofs.Common.{arith}
use Rattle.rc_facts.proofs.RowLoops.{written_all}
use Rattle.rc_facts.proofs.RowLaws.{cut_all, beyond_both}
use Rattle.rc_facts.proofs.rows.cut.Goals as goal

pub returns : goal.returns
returns c =
    cut_all c.args.rows.now c.loop-row.rows c.args.gone c.empty.result (omega arith) c.empty.ensures
    (written_all c.loop-row.rows c.loop-row.row-index c.loop-row.invariant (λ x y beyond. beyond_both c.args.rows.now x y y _ (omega arith)))
