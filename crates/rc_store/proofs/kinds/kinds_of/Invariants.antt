use Rattle.std.proofs.Common.{◌≡◌, map, take}
use Rattle.rc_core.specs.Laid.{held_kind}
use Rattle.rc_core.specs.Shapes.{cell_kind_of}
use Rattle.rc_store.proofs.kinds.kinds_of.Given as goal

abbrev pub invariant-loop-kind : goal.invariant-loop-kind
invariant-loop-kind l = l.kinds.items ≡ map held_kind (map cell_kind_of (take l.kind-index l.layout.cells.items))
