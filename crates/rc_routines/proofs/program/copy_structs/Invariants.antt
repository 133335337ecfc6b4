use Rattle.std.proofs.Common.{◌≡◌, ◌++◌, drop, map}
use Rattle.rc_core.specs.Shapes.{struct_of}
use Rattle.rc_routines.proofs.program.copy_structs.Given as goal

abbrev pub invariant-loop-structure : goal.invariant-loop-structure
invariant-loop-structure l = map struct_of l.copies.items ++ map struct_of (drop l.structure-index l.structs) ≡ map struct_of l.structs
