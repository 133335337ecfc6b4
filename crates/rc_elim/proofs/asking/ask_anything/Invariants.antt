use Rattle.std.proofs.Common.{◌≡◌, length}
use Rattle.rc_graph.specs.Nodes.{nodes_of}
use Rattle.rc_elim.specs.Asking.{ask_anything}
use Rattle.rc_elim.proofs.asking.ask_anything.Given as goal

abbrev pub invariant-loop-rest : goal.invariant-loop-rest
invariant-loop-rest l = ask_anything (nodes_of l.rest) ≡ ask_anything (nodes_of l.nodes)

abbrev pub decreases-loop-rest : goal.decreases-loop-rest
decreases-loop-rest l = length l.rest
