use Rattle.std.proofs.Common.{◌≡◌, ◌+◌, ◌*◌, ◌++◌, map, take}
use Rattle.rc_core.specs.Layout.{fields_cells, layouts_of}
use Rattle.rc_core.specs.Shapes.{ty_of, field_of, cell_kind_of, struct_of}
use Rattle.rc_core.proofs.LayoutLaws.{rank}
use Rattle.rc_core.proofs.cells.+cells.Given as goal

abbrev pub decreases-push_cells : goal.decreases-push_cells
decreases-push_cells a = 3 * rank (ty_of a.ty.now)

abbrev pub decreases-push_field : goal.decreases-push_field
decreases-push_field a = 3 * rank (ty_of a.field.now.ty) + 1

abbrev pub decreases-push_struct : goal.decreases-push_struct
decreases-push_struct a = 3 * a.number + 2

abbrev pub invariant-push_struct-loop-field : goal.invariant-push_struct-loop-field
invariant-push_struct-loop-field l =
    map cell_kind_of l.kinds.items ≡ map cell_kind_of l.initial.kinds.items ++ fields_cells (layouts_of (map struct_of l.structs)) (map field_of (take l.field-index l.field-items))
