use Rattle.std.proofs.Common.{map, ap, ◌∙◌}
use Rattle.rc_core.specs.Shapes.{ty_of}
use Rattle.rc_rlang.specs.RegionFlow.{entered, entry_pairs}
use Rattle.rc_rlang.specs.Shapes.{routine_in}
use Rattle.rc_graph.specs.Nodes.{entry_of, nodes_of}
use Rattle.rc_graph.proofs.Walking.{from_plan, routine_done, taken_map, on_ok}
use Rattle.rc_graph.proofs.graph.nodes.Goals as goal

pub returns : goal.returns
returns c structs s =
    let one = c.args.routine.now in
    let f = routine_in structs one in
    on_ok c.end.result _ _
    (λ last. routine_done f c.in_ok-plan.plan (entered (map entry_of c.in_ok-entries.entries.items)) (nodes_of c.args.out.now.items) (nodes_of c.go.new.out.items) (nodes_of c.code.new.out.items) (nodes_of c.end.new.out.items)
    (from_plan c.plan_routine.result _ _ _ c.in_ok-plan.ensures (c.plan_routine.ensures structs s.laid))
    (ap entered (c.in_ok-entries.ensures f s.numbers ∙ ap (λ tys. entry_pairs f tys 0) (ap (map ty_of) c.parameters.ensures ∙ taken_map ty_of one.parameters one.locals.items)))
    c.in_ok-go.ensures (c.in_ok-code.ensures structs f s) last)
    (c.end.ensures structs f s)
