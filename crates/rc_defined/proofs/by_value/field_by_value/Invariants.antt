use Rattle.std.proofs.Common.{◌≡◌, length, map}
use Rattle.rc_syntax.specs.Shape.{field_of}
use Rattle.rc_deletes.specs.Items.{field_by_value}
use Rattle.rc_defined.proofs.by_value.field_by_value.Given as goal

abbrev pub invariant-loop-rest : goal.invariant-loop-rest
invariant-loop-rest l = field_by_value l.base (map field_of l.fields) ≡ field_by_value l.base (map field_of l.rest)

abbrev pub decreases-loop-rest : goal.decreases-loop-rest
decreases-loop-rest l = length l.rest
