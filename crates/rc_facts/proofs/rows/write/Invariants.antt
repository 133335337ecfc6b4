use Rattle.rc_base.specs.BitSets.{marks}
use Rattle.rc_facts.specs.Rows.{links}
use Rattle.rc_facts.specs.Shut.{one_by, spot}
use Rattle.rc_facts.proofs.RowLoops.{Written}
use Rattle.rc_facts.proofs.rows.write.Given as goal

abbrev pub invariant-loop-at : goal.invariant-loop-at
invariant-loop-at l = Written l.initial.rows l.rows l.at (λ a b. one_by (links l.initial.rows a) (marks l.column a) (spot l.x b))
