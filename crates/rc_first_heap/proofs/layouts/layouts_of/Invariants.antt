use Rattle.std.proofs.Common.{◌≡◌, map, take}
use Rattle.rc_core.specs.Shapes.{kinds_in}
use Rattle.rc_code.specs.Running.{layout_of}
use Rattle.rc_first_heap.proofs.layouts.layouts_of.Given as goal

abbrev pub invariant-loop-cells : goal.invariant-loop-cells
invariant-loop-cells l = map kinds_in l.layouts.items ≡ map layout_of (take l.cells-index l.types)
