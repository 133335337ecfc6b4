use Rattle.rc_emit.proofs.Laid.{field_step}
use Rattle.rc_emit.proofs.cells.struct_cells.Goals as goal

pub loop-field-preserved : goal.loop-field-preserved
loop-field-preserved c = λ of are.
    field_step c.args.numbers.now of c.args.fields.now c.loop-field.field-index c.field-item.result c.loop-field.cells.items c.add_field.new.out.items c.loop-field-test.true c.field-item.is (c.loop-field.invariant of are) (c.in_ok-add_field.ensures of are)
