use Rattle.std.proofs.Common.{◌≡◌, length}
use Rattle.rc_loader.specs.Decisions.{are_pins}
use Rattle.rc_loader.proofs.names.are_pins.Given as goal

abbrev pub invariant-loop-rest : goal.invariant-loop-rest
invariant-loop-rest l = are_pins l.function l.rest ≡ are_pins l.function l.pins

abbrev pub decreases-loop-rest : goal.decreases-loop-rest
decreases-loop-rest l = length l.rest
