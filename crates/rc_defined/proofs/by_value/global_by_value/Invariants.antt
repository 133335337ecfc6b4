use Rattle.std.proofs.Common.{◌≡◌, length, map}
use Rattle.rc_syntax.specs.Shape.{item_of}
use Rattle.rc_deletes.specs.Items.{global_by_value}
use Rattle.rc_defined.proofs.by_value.global_by_value.Given as goal

abbrev pub invariant-loop-rest : goal.invariant-loop-rest
invariant-loop-rest l = global_by_value l.base (map item_of l.items) ≡ global_by_value l.base (map item_of l.rest)

abbrev pub decreases-loop-rest : goal.decreases-loop-rest
decreases-loop-rest l = length l.rest
