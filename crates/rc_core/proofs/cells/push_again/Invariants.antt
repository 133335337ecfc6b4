use Rattle.std.proofs.Common.{◌≡◌, ◌≤◌, ◌++◌, ◌-◌, map, length, take, drop}
use Rattle.rc_core.specs.Shapes.{cell_kind_of}
use Rattle.rc_core.proofs.cells.push_again.Given as goal

abbrev pub invariant-loop-at : goal.invariant-loop-at
invariant-loop-at l =
    (map cell_kind_of l.kinds.items ≡ map cell_kind_of l.initial.kinds.items ++ take (l.at - l.start) (drop l.start (map cell_kind_of l.initial.kinds.items)))
    × (length l.initial.kinds.items ≤ length l.kinds.items)
