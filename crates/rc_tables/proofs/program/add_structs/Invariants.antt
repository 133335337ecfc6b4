use Rattle.std.proofs.Common.{◌≡◌, flat_map, map, take}
use Rattle.rc_emission.specs.KeptOperands.{same_type}
use Rattle.rc_numbering.specs.Tables.{seen_behind}
use Rattle.rc_tables.specs.Kept.{all_types}
use Rattle.rc_core.specs.Shapes.{struct_of}
use Rattle.rc_numbering.specs.Names.{fields_names}
use Rattle.rc_tables.proofs.program.add_structs.Given as goal

abbrev pub invariant-loop-structure : goal.invariant-loop-structure
invariant-loop-structure l = all_types l.types ≡ seen_behind same_type (all_types l.fn.types) (flat_map fields_names (map struct_of (take l.structure-index l.structs)))
