use Rattle.rc_graph.specs.Nodes.{nodes_of}
use Rattle.rc_graph.proofs.Walking.{compute_done, on_ok}
use Rattle.rc_graph.proofs.acts.compute.Goals as goal

pub returns : goal.returns
returns c =
    on_ok c.go-2.result _ _
    (λ last. compute_done c.args.holder c.args.points c.saturating_sub.result c.args.here c.in_ok-second.second c.args.next (nodes_of c.args.out.now.items) (nodes_of c.go.new.out.items) (nodes_of c.idle.new.out.items) (nodes_of c.go-2.new.out.items)
    c.saturating_sub.ensures c.in_ok-second.ensures c.in_ok-go.ensures c.in_ok-last.ensures.nodes last)
    c.go-2.ensures
