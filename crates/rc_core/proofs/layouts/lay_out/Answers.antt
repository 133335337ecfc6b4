use Rattle.std.proofs.Common.{rules, arith}
use Rattle.rc_core.specs.Layout.{cells_by}
use Rattle.rc_core.specs.Shapes.{ty_of}
use Rattle.rc_core.proofs.Laying.{field_step, fields_done}
use Rattle.rc_core.proofs.layouts.lay_out.Goals as goal

pub loop-field-preserved : goal.loop-field-preserved
loop-field-preserved c = λ of h.
    let one = c.cells_by-one.ensures of h in
    field_step of c.args.fields.now c.loop-field.field-index c.field-item.result c.loop-field.kinds.items c.cells_by-one.result.now c.push_field.new.kinds.items c.loop-field.places.items c.push.new.self.items c.length_of.result c.loop-field-test.true c.field-item.is (c.loop-field.invariant of h) one c.length_of.ensures (c.in_ok-push_field.ensures (cells_by of (ty_of c.field-item.result.ty)) one) (search rules)

pub returns : goal.returns
returns c = λ of h.
    fields_done of c.args.fields.now c.loop-field.field-index (record { kinds = c.loop-field.kinds.items; places = c.loop-field.places.items }) (omega arith) (c.loop-field.invariant of h)
