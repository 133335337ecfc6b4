use Rattle.std.proofs.Common.{ap}
use Rattle.std.specs.Prelude.{option_map}
use Rattle.rc_core.specs.Shapes.{ty_of}
use Rattle.rc_graph.specs.Nodes.{effect_of, nodes_of}
use Rattle.rc_graph.proofs.Walking.{end_done, on_ok}
use Rattle.rc_graph.proofs.graph.end.Goals as goal

pub returns-in_ok-go-in-Some : goal.returns-in_ok-go-in-Some
returns-in_ok-go-in-Some c structs f s =
    on_ok c.leave-in-Some.result _ _
    (λ last. end_done f (option_map ty_of c.args.promised.now) (ty_of c.in-Some.ty) (effect_of c.in_ok-effect-in-Some.effect) c.in_ok-behind-in-Some.behind c.args.here c.in_ok-variable-in-Some.variable (nodes_of c.args.out.now.items) (nodes_of c.go.new.out.items) (nodes_of c.leave-in-Some.new.out.items)
    (ap (option_map ty_of) c.in-Some.is) (c.in_ok-effect-in-Some.ensures structs f s) c.in_ok-behind-in-Some.ensures (c.in_ok-variable-in-Some.ensures structs f s) c.in_ok-go-in-Some.ensures last)
    c.leave-in-Some.ensures
