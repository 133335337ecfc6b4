use Rattle.std.proofs.Common.{map}
use Rattle.rc_core.specs.Shapes.{struct_of}
use Rattle.rc_core.proofs.Laying.{LayingStructs}
use Rattle.rc_core.proofs.layouts.Layouts.new.Given as goal

abbrev pub invariant-loop-structure : goal.invariant-loop-structure
invariant-loop-structure l = LayingStructs (map struct_of l.structs) l.structure-index l.layouts.items
