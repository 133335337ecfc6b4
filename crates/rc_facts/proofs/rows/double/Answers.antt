use Rattle.std.proofs.Common.{◌∙◌, sym, arith}
use Rattle.std.proofs.lemmas.List.{get_or_read}
use Rattle.rc_facts.proofs.RowLoops.{written_all, links_beyond}
use Rattle.rc_facts.proofs.RowLaws.{double_all}
use Rattle.rc_facts.proofs.rows.double.Goals as goal

pub returns : goal.returns
returns c =
    rw (get_or_read c.loop-row.rows c.args.from c.index-rows-from.result (omega arith) c.index-rows-from.is 0)
    (double_all c.args.rows.now c.loop-row.rows c.args.from c.args.to (omega arith)
    (written_all c.loop-row.rows c.loop-row.row-index c.loop-row.invariant (λ x y beyond. links_beyond c.args.rows.now x y (omega arith) ∙ sym (links_beyond c.args.rows.now x _ (omega arith)))))
