use Rattle.std.proofs.Common.{◌<◌, map, length, ap, subst, arith}
use Rattle.std.proofs.lemmas.List.{length-map}
use Rattle.rc_core.specs.Shapes.{ty_of, cell_kind_of, struct_of, field_of}
use Rattle.rc_core.specs.Typing.{IsDefined}
use Rattle.rc_core.specs.WellTyped.{IsInside, FieldFits}
use Rattle.rc_core.proofs.LayoutLaws.{rank}
use Rattle.rc_core.proofs.Unwrapping.{inside_rank, rank_inside, field_fits, struct_done}
use Rattle.rc_core.proofs.cells.+cells.Goals as goal

pub push_cells-push_struct-requires : goal.push_cells-push_struct-requires
push_cells-push_struct-requires t c =
    let r : c.in-Struct.number < rank (ty_of c.args.ty.now) = subst (IsInside (rank (ty_of c.args.ty.now))) (ap ty_of c.in-Struct.is) (c.unwrapped.ensures.inside (rank (ty_of c.args.ty.now)) (inside_rank (ty_of c.args.ty.now))) in
    let d : c.in-Struct.number < length (map struct_of c.args.structs.now) = subst (IsDefined (map struct_of c.args.structs.now)) (ap ty_of c.in-Struct.is) c.unwrapped.ensures.defined in
    (omega (arith, c.decreases, r), (c.requires.fit, omega (arith, d, length-map c.args.structs.now struct_of)))

pub push_struct-push_field-requires : goal.push_struct-push_field-requires
push_struct-push_field-requires t c =
    let f : FieldFits (map struct_of c.args.structs.now) c.args.number (field_of c.field-item.result) = field_fits c.args.structs.now c.requires.fit c.index-structs-number.result c.args.number c.requires.defined c.index-structs-number.is c.deref-field-items.result.now c.loop-field.field-index c.field-item.result c.deref-field-items.ensures.value c.loop-field-test.true c.field-item.is in
    (omega (arith, c.decreases, rank_inside c.args.number (ty_of c.field-item.result.ty) f.inside), (c.requires.fit, (f.defined, f.counted)))

pub push_struct-returns : goal.push_struct-returns
push_struct-returns t c =
    struct_done c.args.structs.now c.requires.fit c.index-structs-number.result c.args.number c.requires.defined c.index-structs-number.is (map cell_kind_of c.args.kinds.now.items) (map cell_kind_of c.loop-field.kinds.items) c.deref-field-items.result.now c.loop-field.field-index c.deref-field-items.ensures.value c.loop-field-test.false c.loop-field.invariant
