use Rattle.std.proofs.Common.{◌≡◌, ◌∙◌, List, Some, length, ap, sym, map}
use Rattle.std.specs.Prelude.{slice_get, option_map}
use Rattle.std.proofs.lemmas.Bool.{ltb-true}
use Rattle.std.proofs.lemmas.Option.{slice_get-get_or}
use Rattle.rc_core.specs.Shapes.{struct_of}
use Rattle.rc_rlang.specs.RegionFlow.{routine_nodes}
use Rattle.rc_rlang.specs.Shapes.{rlang_of, routine_in}
use Rattle.rc_rlang.specs.declared.code.RegionParts.{RegionParts}
use Rattle.rc_rlang.specs.declared.code.Routine.{Routine as CodeRoutine}
use Rattle.rc_graph.specs.declared.node.Node.{Node as CodeNode}
use Rattle.rc_graph.specs.Nodes.{node_of, nodes_of}
use Rattle.rc_elim.specs.Masks.{asks, has_check}
use Rattle.rc_elim.proofs.Checked.{asked_there}
use Rattle.rc_elim.proofs.mask.has_check.Goals as goal

pub graph_of-requires : goal.graph_of-requires
graph_of-requires c = record { laid = record { structs = (rlang_of c.args.code.now).structs; laid = c.layouts-layouts.ensures } }

pub returns : goal.returns
returns c =
    let parts = c.parts-parts.result.now in
    let routine = c.in-Some.routine.now in
    let lookup = c.in-Some.ensures.lookup in
    let found : slice_get c.deref.result.now c.args.function ≡ Some routine = slice_get-get_or c.deref.result.now c.args.function routine (ltb-true c.args.function (length c.deref.result.now) (sym lookup.0)) ∙ ap Some (sym lookup.1) in
    let there : slice_get parts.functions.items c.args.function ≡ Some routine = ap (λ (fs : List CodeRoutine). slice_get fs c.args.function) (sym c.deref.ensures.value) ∙ found in
    let structs = (rlang_of c.args.code.now).structs in
    let graph = c.in_ok-graph.ensures structs c.layouts-layouts.ensures in
    let nodes : nodes_of c.in_ok-graph.graph.nodes.items ≡ routine_nodes (routine_in (map struct_of parts.structs.items) routine) = graph.nodes ∙ ap (λ (p : RegionParts). routine_nodes (routine_in (map struct_of p.structs.items) routine)) (sym c.parts-parts.ensures.parts) in
    c.asks.ensures ∙ ap (λ (ns : List CodeNode). asks (option_map node_of (slice_get ns c.args.point))) c.as_slice.ensures.value
    ∙ asked_there parts c.args.function c.args.point routine c.in_ok-graph.graph.nodes.items there nodes
    ∙ ap (λ (p : RegionParts). has_check (rlang_of p) c.args.function c.args.point) c.parts-parts.ensures.parts
