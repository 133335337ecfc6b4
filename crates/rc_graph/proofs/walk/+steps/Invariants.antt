use Rattle.std.proofs.Common.{◌≡◌, ◌++◌, drop}
use Rattle.rc_rlang.specs.RegionCode.{Routine}
use Rattle.rc_rlang.specs.RegionFlow.{steps_nodes}
use Rattle.rc_rlang.specs.Shapes.{steps_of}
use Rattle.rc_graph.specs.Nodes.{Serves, nodes_of}
use Rattle.rc_graph.proofs.walk.+steps.Given as goal

abbrev pub invariant-steps-loop-i : goal.invariant-steps-loop-i
invariant-steps-loop-i l = (structs : _) (f : Routine) → Serves l.context structs f →
    nodes_of l.fn.out.items ++ steps_nodes f (steps_of structs l.steps) l.here l.next ≡ nodes_of l.out.items ++ steps_nodes f (steps_of structs (drop l.i l.steps)) l.at l.next
