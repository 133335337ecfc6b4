use Rattle.std.proofs.Common.{◌≡◌, ◌++◌, List, Some}
use Rattle.rc_core.specs.Layout.{Layout, cells_by, copies}
use Rattle.rc_core.specs.Shapes.{ty_of}
use Rattle.rc_emit.specs.Cells.{cells_with, AreCells}
use Rattle.rc_emit.proofs.cells.add_field.Given as goal

abbrev pub invariant-loop : goal.invariant-loop
invariant-loop l = (of : List Layout) → AreCells l.numbers of l.structs → l.out.items ≡ l.initial.out.items ++ cells_with l.numbers (copies (Some l.counter) (cells_by of (ty_of l.field.ty)))
