use Rattle.std.proofs.Common.{◌≡◌, ◌+◌, ◌++◌}
use Rattle.rc_graph.specs.Nodes.{nodes_of, idle_nodes}
use Rattle.rc_graph.proofs.acts.idle.Given as goal

abbrev pub invariant-loop-done : goal.invariant-loop-done
invariant-loop-done l = record {
  nodes : nodes_of l.out.items ≡ nodes_of l.fn.out.items ++ idle_nodes l.done l.here;
  at : l.at ≡ l.here + l.done;
}
