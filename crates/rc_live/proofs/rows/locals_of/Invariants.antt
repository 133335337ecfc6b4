use Rattle.std.proofs.Common.{◌≡◌, ◌++◌, drop}
use Rattle.rc_base.specs.BitSets.{marks}
use Rattle.rc_live.specs.Rows.{chosen}
use Rattle.rc_live.proofs.rows.locals_of.Given as goal

abbrev pub invariant-loop-bit : goal.invariant-loop-bit
invariant-loop-bit l = l.locals.items ++ chosen (drop l.bit l.names) (marks l.row) l.bit ≡ chosen l.names (marks l.row) 0
