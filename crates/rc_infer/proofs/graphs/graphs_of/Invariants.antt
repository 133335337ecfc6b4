use Rattle.rc_rlang.specs.Shapes.{rlang_of}
use Rattle.rc_graph.specs.Nodes.{AreGraphs}
use Rattle.rc_infer.proofs.graphs.graphs_of.Given as goal

abbrev pub invariant-loop-g : goal.invariant-loop-g
invariant-loop-g l = AreGraphs (rlang_of l.code) l.g l.all.items
