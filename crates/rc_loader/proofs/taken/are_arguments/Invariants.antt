use Rattle.std.proofs.Common.{◌≡◌, map, length}
use Rattle.rc_code.specs.Soundness.{operand_kind}
use Rattle.rc_loader.specs.Codes.{kind_in}
use Rattle.rc_loader.specs.Decisions.{same_kinds}
use Rattle.rc_loader.proofs.taken.are_arguments.Given as goal

abbrev pub invariant-loop-rest : goal.invariant-loop-rest
invariant-loop-rest l = same_kinds (map kind_in l.rest) (map operand_kind l.left) ≡ same_kinds (map kind_in l.operands) (map operand_kind l.parameters)

abbrev pub decreases-loop-rest : goal.decreases-loop-rest
decreases-loop-rest l = length l.rest
