use Rattle.std.proofs.Common.{◌≡◌, map, take}
use Rattle.rc_core.specs.Shapes.{cell_kind_of}
use Rattle.rc_code.specs.Running.{cell_kind}
use Rattle.rc_first_heap.proofs.layouts.layout_of.Given as goal

abbrev pub invariant-loop-cell : goal.invariant-loop-cell
invariant-loop-cell l = map cell_kind_of l.kinds.items ≡ map cell_kind (take l.cell-index l.cells)
