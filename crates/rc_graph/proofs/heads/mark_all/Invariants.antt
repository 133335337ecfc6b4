use Rattle.std.specs.Prelude.{◌≡◌}
use Rattle.rc_graph.specs.Heading.{AreMarked, Grew}
use Rattle.rc_graph.specs.Nodes.{nodes_of}
use Rattle.rc_graph.proofs.heads.mark_all.Given as goal

abbrev pub invariant-loop-node : goal.invariant-loop-node
invariant-loop-node l = Grew l.initial.heads l.heads × AreMarked (nodes_of l.nodes) l.node-index l.heads × (l.next ≡ l.node-index)
