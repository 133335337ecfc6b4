use Rattle.std.proofs.Common.{◌≡◌, List, map, take}
use Rattle.rc_core.specs.Layout.{Layout, fields_cells}
use Rattle.rc_core.specs.Shapes.{field_of}
use Rattle.rc_emit.specs.Cells.{cells_with, AreCells}
use Rattle.rc_emit.proofs.cells.struct_cells.Given as goal

abbrev pub invariant-loop-field : goal.invariant-loop-field
invariant-loop-field l = (of : List Layout) → AreCells l.numbers of l.structs → l.cells.items ≡ cells_with l.numbers (fields_cells of (map field_of (take l.field-index l.fields)))
