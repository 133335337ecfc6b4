use Rattle.std.proofs.Common.{◌∙◌, ap, map}
use Rattle.rc_emission.specs.KeptOperands.{same_type}
use Rattle.rc_numbering.specs.Tables.{seen_behind}
use Rattle.rc_tables.specs.Kept.{all_types}
use Rattle.rc_core.specs.Shapes.{field_of, struct_of}
use Rattle.rc_numbering.specs.Names.{fields_names}
use Rattle.rc_tables.proofs.Seen.{flat_step}
use Rattle.rc_tables.proofs.program.add_structs.Goals as goal

pub loop-structure-preserved : goal.loop-structure-preserved
loop-structure-preserved c =
    flat_step same_type c.args.structs.now c.loop-structure.structure-index c.structure-item.result c.loop-structure-test.true c.structure-item.is (all_types c.args.types.now) (all_types c.loop-structure.types) (all_types c.add_fields.new.types) fields_names struct_of c.loop-structure.invariant (c.in_ok-add_fields.ensures ∙ ap (λ fields. seen_behind same_type (all_types c.loop-structure.types) (fields_names (map field_of fields))) c.as_slice.ensures.value)
