use Rattle.std.proofs.Common.{◌≡◌, ◌≤◌, ◌++◌, ◌-◌, map, length, drop, Some}
use Rattle.rc_core.specs.Layout.{copies}
use Rattle.rc_core.specs.Shapes.{cell_kind_of}
use Rattle.rc_core.proofs.cells.repeat.Given as goal

abbrev pub invariant-loop-copy : goal.invariant-loop-copy
invariant-loop-copy l =
    (map cell_kind_of l.kinds.items ≡ map cell_kind_of l.initial.kinds.items ++ copies (Some (l._copy - 1)) (drop l.start (map cell_kind_of l.initial.kinds.items)))
    × (length l.initial.kinds.items ≤ length l.kinds.items)
