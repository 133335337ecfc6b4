use Rattle.std.proofs.Common.{◌≡◌, ℕ}
use Rattle.rc_facts.specs.Rows.{links}
use Rattle.rc_facts.proofs.RowLaws.{turned}
use Rattle.rc_facts.proofs.rows.mirror.Given as goal

abbrev pub invariant-loop-x : goal.invariant-loop-x
invariant-loop-x l = (x y : ℕ) → links l.rows x y ≡ turned l.initial.rows l.which l.x x y
