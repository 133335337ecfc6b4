use Rattle.std.proofs.Common.{◌≡◌, nat_lt, length}
use Rattle.rc_code.specs.Reached.{span}
use Rattle.rc_reached.proofs.nesting.is_inside.Given as goal

abbrev pub invariant-loop-rest : goal.invariant-loop-rest
invariant-loop-rest l = nat_lt (span l.rest) l.room ≡ nat_lt (span l.indices) l.cells

abbrev pub decreases-loop-rest : goal.decreases-loop-rest
decreases-loop-rest l = length l.rest
