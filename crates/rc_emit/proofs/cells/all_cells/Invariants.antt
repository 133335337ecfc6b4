use Rattle.std.proofs.Common.{map, take}
use Rattle.rc_core.specs.Layout.{layouts_of}
use Rattle.rc_core.specs.Shapes.{struct_of}
use Rattle.rc_emit.specs.Cells.{AreCells}
use Rattle.rc_emit.proofs.cells.all_cells.Given as goal

abbrev pub invariant-loop-structure : goal.invariant-loop-structure
invariant-loop-structure l = AreCells l.numbers (layouts_of (map struct_of (take l.structure-index l.structs))) l.all.items
