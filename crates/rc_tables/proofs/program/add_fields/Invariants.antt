use Rattle.std.proofs.Common.{◌≡◌, map, take}
use Rattle.rc_emission.specs.KeptOperands.{same_type}
use Rattle.rc_numbering.specs.Tables.{seen_behind}
use Rattle.rc_tables.specs.Kept.{all_types}
use Rattle.rc_core.specs.Shapes.{field_of}
use Rattle.rc_numbering.specs.Names.{fields_names}
use Rattle.rc_tables.proofs.program.add_fields.Given as goal

abbrev pub invariant-loop-field : goal.invariant-loop-field
invariant-loop-field l = all_types l.types ≡ seen_behind same_type (all_types l.fn.types) (fields_names (map field_of (take l.field-index l.fields)))
