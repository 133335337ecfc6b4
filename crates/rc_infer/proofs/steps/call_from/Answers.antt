use Rattle.std.proofs.Common.{sym, subst}
use Rattle.rc_graph.specs.Nodes.{node_of}
use Rattle.rc_edges.specs.Boundaries.{NodeReady}
use Rattle.rc_infer.proofs.steps.call_from.Goals as goal

pub call_at-requires : goal.call_at-requires
call_at-requires c = subst (NodeReady (node_of c.args.node.now) c.args.work.now.variables) (sym c.as_mut_slice.ensures.value) c.requires
