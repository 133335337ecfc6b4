use Rattle.std.proofs.Common.{◌||◌}
use Rattle.rc_facts.specs.Rows.{links}
use Rattle.rc_facts.proofs.RowLoops.{Written}
use Rattle.rc_facts.proofs.rows.join.Given as goal

abbrev pub invariant-loop-x : goal.invariant-loop-x
invariant-loop-x l = Written l.initial.rows l.rows l.x (λ x y. links l.initial.rows x y || links l.others x y)
