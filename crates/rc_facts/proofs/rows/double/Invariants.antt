use Rattle.rc_facts.specs.Rows.{links}
use Rattle.rc_facts.specs.Facts.{replaced}
use Rattle.rc_facts.proofs.RowLoops.{Written}
use Rattle.rc_facts.proofs.rows.double.Given as goal

abbrev pub invariant-loop-row : goal.invariant-loop-row
invariant-loop-row l = Written l.initial.rows l.rows l.row-index (λ x y. links l.initial.rows x (replaced l.to l.from y))
