use Rattle.rc_core.specs.Shapes.{ty_of}
use Rattle.rc_rlang.specs.RegionFlow.{loaded_value, stored_value, beside}
use Rattle.rc_graph.specs.Nodes.{effect_of, nodes_of}
use Rattle.rc_graph.proofs.Walking.{points_done, on_ok}
use Rattle.rc_graph.proofs.acts.step_cell.Goals as goal

pub returns : goal.returns
returns c f v h value holder =
    on_ok c.go-3.result _ _
    (λ last. points_done (loaded_value f (ty_of c.args.cell.now) v h) (beside c.args.value c.args.value) (stored_value f (ty_of c.args.cell.now) v h) (effect_of c.loaded.result) (effect_of c.stored.result) c.args.here c.in_ok-second.second c.in_ok-third.third c.args.next
    (nodes_of c.args.out.now.items) (nodes_of c.go.new.out.items) (nodes_of c.go-2.new.out.items) (nodes_of c.go-3.new.out.items) c.in_ok-second.ensures c.in_ok-third.ensures (c.loaded.ensures f v h value holder) (c.stored.ensures f v h value holder) c.in_ok-go.ensures c.in_ok-go-2.ensures last)
    c.go-3.ensures
