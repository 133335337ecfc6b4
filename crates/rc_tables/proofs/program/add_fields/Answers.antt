use Rattle.rc_emission.specs.KeptOperands.{same_type}
use Rattle.rc_tables.specs.Kept.{all_types}
use Rattle.rc_core.specs.Programs.{Field}
use Rattle.rc_core.specs.Shapes.{field_of}
use Rattle.rc_numbering.specs.Names.{pointed_to}
use Rattle.rc_tables.proofs.Seen.{flat_step}
use Rattle.rc_tables.proofs.program.add_fields.Goals as goal

pub loop-field-preserved : goal.loop-field-preserved
loop-field-preserved c =
    flat_step same_type c.args.fields.now c.loop-field.field-index c.field-item.result c.loop-field-test.true c.field-item.is (all_types c.args.types.now) (all_types c.loop-field.types) (all_types c.add_pointed.new.types) (λ (d : Field). pointed_to d.ty) field_of c.loop-field.invariant c.in_ok-add_pointed.ensures
