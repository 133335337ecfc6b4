use Rattle.std.proofs.Common.{◌≡◌, map, take}
use Rattle.rc_core.specs.Laid.{held_kind}
use Rattle.rc_core.specs.Shapes.{cell_kind_of}
use Rattle.rc_areas.specs.Naming.{name_of}
use Rattle.rc_areas.proofs.naming.name_of.Given as goal

abbrev pub invariant-loop-cell : goal.invariant-loop-cell
invariant-loop-cell l = l.name.items ≡ name_of (map held_kind (map cell_kind_of (take l.cell-index l.layout.cells.items)))
