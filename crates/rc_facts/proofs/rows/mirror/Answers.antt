use Rattle.std.proofs.Common.{◌∙◌, ◌||◌, ◌&&◌, ◌==◌, not, ap, sym, arith}
use Rattle.rc_facts.proofs.RowLoops.{read_row}
use Rattle.rc_facts.proofs.RowLaws.{turned_there, turned_absent, mirror_step, mirror_more, mirror_all}
use Rattle.rc_facts.proofs.rows.mirror.Goals as goal
use Rattle.rc_facts.proofs.rows.mirror.Goals.{then-contains, else-contains}

pub loop-x-preserved : goal.loop-x-preserved
loop-x-preserved c =
    let now = c.loop-x.rows in
    let i = c.loop-x.x in
    mirror_more c.args.rows.now now _ i c.args.which (omega arith) c.loop-x.auto.rows c.loop-x.invariant
    (mirror_step now c.if-contains.rows i c.args.which c.with-in-loop-x.result (omega arith) c.if-contains.auto.rows
    (elim c.if-contains.branch [
      | then-contains w ↦ turned_there now c.if-contains.rows i c.args.which w.without-linked.result w.empty.result w.with.result w.empty.ensures (sym c.contains.ensures ∙ w.if-contains.true) (λ y. w.without-linked.ensures y ∙ ap (λ b. b && not (y == i)) (read_row now i w.index-rows-x.result (omega arith) w.index-rows-x.is y)) w.with.ensures (rw w.rows-is w.extend.ensures)
      | else-contains w ↦ turned_absent now c.if-contains.rows i c.args.which (sym c.contains.ensures ∙ w.if-contains.false) w.rows-is
    ])
    (λ y. c.with-in-loop-x.ensures y ∙ ap (λ b. b || y == i) (read_row c.if-contains.rows i c.index-rows-x-in-loop-x.result (omega (arith, c.if-contains.auto.rows)) c.index-rows-x-in-loop-x.is y)))

pub returns : goal.returns
returns c = mirror_all c.args.rows.now c.loop-x.rows c.args.which c.loop-x.x (omega arith) c.loop-x.invariant
