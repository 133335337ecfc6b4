use Rattle.std.proofs.Common.{arith}
use Rattle.rc_graph.specs.Nodes.{nodes_of}
use Rattle.rc_graph.proofs.Walking.{idle_more}
use Rattle.rc_graph.proofs.acts.idle.Goals as goal

pub loop-done-preserved : goal.loop-done-preserved
loop-done-preserved c =
    let l = c.loop-done in
    let next = c.in_ok-next.ensures in
    let at = l.invariant.at in
    record {
      nodes = idle_more l.done l.at c.args.here c.in_ok-next.next (nodes_of c.args.out.now.items) (nodes_of l.out.items) (nodes_of c.go.new.out.items) l.invariant.nodes at next c.in_ok-go.ensures;
      at = omega (arith, next, at);
    }
