use Rattle.std.proofs.Common.{◌≡◌, ◌+◌, length}
use Rattle.rc_code.specs.Reached.{span}
use Rattle.rc_reached.proofs.nesting.span_of.Given as goal

abbrev pub invariant-loop-rest : goal.invariant-loop-rest
invariant-loop-rest l = l.span + span l.rest ≡ span l.indices

abbrev pub decreases-loop-rest : goal.decreases-loop-rest
decreases-loop-rest l = length l.rest
