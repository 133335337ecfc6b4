use Rattle.std.proofs.Common.{◌≡◌, length}
use Rattle.rc_code.specs.Image.{is_nested}
use Rattle.rc_reached.proofs.nesting.is_nested.Given as goal

abbrev pub invariant-loop-rest : goal.invariant-loop-rest
invariant-loop-rest l = is_nested l.rest ≡ is_nested l.indices

abbrev pub decreases-loop-rest : goal.decreases-loop-rest
decreases-loop-rest l = length l.rest
