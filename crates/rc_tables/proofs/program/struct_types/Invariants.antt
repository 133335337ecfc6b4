use Rattle.std.proofs.Common.{◌≡◌, map, take}
use Rattle.rc_core.specs.Shapes.{struct_of, ty_of}
use Rattle.rc_numbering.specs.Names.{structs_from}
use Rattle.rc_tables.proofs.program.struct_types.Given as goal

abbrev pub invariant-loop-number : goal.invariant-loop-number
invariant-loop-number l = map ty_of l.types.items ≡ structs_from 0 (map struct_of (take l.number l.structs))
