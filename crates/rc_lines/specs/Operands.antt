-- The types of the operands that stand, the topmost first. The code has them the other way round.
use Rattle.std.specs.Prelude.{List, [], map}
use Rattle.rc_core.specs.Types.{Ty}
use Rattle.rc_core.specs.Shapes.{ty_of}
use Rattle.rc_rlang.specs.RegionFits.{pushed}
use Rattle.rc_lines.specs.declared.operands.Operand.{Operand}

abbrev pub type_of : Operand → Ty
type_of o = ty_of o.ty.now

abbrev pub types_on : List Operand → List Ty
types_on operands = pushed (map type_of operands) []
