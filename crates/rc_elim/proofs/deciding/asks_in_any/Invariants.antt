use Rattle.std.proofs.Common.{◌≡◌, length}
use Rattle.rc_elim.specs.Asking.{asks_in_any}
use Rattle.rc_elim.proofs.deciding.asks_in_any.Given as goal

abbrev pub invariant-loop-rest : goal.invariant-loop-rest
invariant-loop-rest l = asks_in_any l.rest ≡ asks_in_any l.graphs

abbrev pub decreases-loop-rest : goal.decreases-loop-rest
decreases-loop-rest l = length l.rest
