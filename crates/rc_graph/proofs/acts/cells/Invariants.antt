use Rattle.std.proofs.Common.{◌≡◌, ◌++◌, drop, map}
use Rattle.rc_core.specs.Laid.{held_kind}
use Rattle.rc_core.specs.Layout.{Layout}
use Rattle.rc_rlang.specs.RegionCode.{Routine}
use Rattle.rc_rlang.specs.RegionFlow.{cell_effects, in_line, temporary_variable}
use Rattle.rc_graph.specs.Nodes.{nodes_of}
use Rattle.rc_graph.proofs.acts.cells.Given as goal

abbrev pub invariant-loop-i : goal.invariant-loop-i
invariant-loop-i l = (f : Routine) (v u : _) (layout : Layout) → l.holders.value ≡ temporary_variable f v → l.holders.from ≡ temporary_variable f u → l.holders.to ≡ temporary_variable f 0 → l.kinds ≡ map held_kind layout →
    nodes_of l.fn.out.items ++ in_line (cell_effects f v u layout) l.here l.next ≡ nodes_of l.out.items ++ in_line (cell_effects f v u (drop l.i layout)) l.at l.next
