use Rattle.std.proofs.Common.{◌≡◌, ◌++◌, drop, map}
use Rattle.rc_core.specs.Shapes.{field_of}
use Rattle.rc_routines.proofs.program.copy_struct.Given as goal

abbrev pub invariant-loop-field : goal.invariant-loop-field
invariant-loop-field l = map field_of l.fields.items ++ map field_of (drop l.field-index l.structure.fields.items) ≡ map field_of l.structure.fields.items
