use Rattle.std.proofs.Common.{◌||◌, ◌&&◌, nat_lt, length}
use Rattle.rc_base.specs.BitSets.{marks}
use Rattle.rc_facts.specs.Rows.{links}
use Rattle.rc_facts.proofs.RowLoops.{Written}
use Rattle.rc_facts.proofs.rows.extend.Given as goal

abbrev pub invariant-loop-x : goal.invariant-loop-x
invariant-loop-x l = Written l.initial.rows l.rows l.x (λ x y. links l.initial.rows x y || (nat_lt x (length l.initial.rows) && (marks l.which x && marks l.more y)))
