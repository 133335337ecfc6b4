use Rattle.std.specs.Prelude.{◌≡◌}
use Rattle.rc_graph.specs.Heading.{AreBegun}
use Rattle.rc_graph.specs.Nodes.{nodes_of}
use Rattle.rc_graph.proofs.heads.begun.Given as goal

abbrev pub invariant-loop-node : goal.invariant-loop-node
invariant-loop-node l = AreBegun (nodes_of l.nodes) l.node-index l.heads.items × (l.next ≡ l.node-index)
