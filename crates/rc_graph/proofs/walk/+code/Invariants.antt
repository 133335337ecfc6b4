use Rattle.std.proofs.Common.{◌≡◌, ◌++◌, drop}
use Rattle.rc_rlang.specs.RegionCode.{Routine}
use Rattle.rc_rlang.specs.RegionFlow.{codes_nodes}
use Rattle.rc_rlang.specs.Shapes.{codes_of}
use Rattle.rc_graph.specs.Nodes.{Serves, nodes_of, ends_of}
use Rattle.rc_graph.proofs.walk.+code.Given as goal

abbrev pub invariant-codes-loop-i : goal.invariant-codes-loop-i
invariant-codes-loop-i l = (structs : _) (f : Routine) → Serves l.context structs f →
    nodes_of l.fn.out.items ++ codes_nodes f (codes_of structs l.body) l.here (ends_of l.ways) ≡ nodes_of l.out.items ++ codes_nodes f (codes_of structs (drop l.i l.body)) l.at (ends_of l.ways)
