use Rattle.std.proofs.Common.{◌++◌, map, refl, sym, ap, ◌∙◌, subst}
use Rattle.rc_core.specs.Shapes.{ty_of}
use Rattle.rc_rlang.specs.RegionFlow.{temporary_variable, routine_nodes}
use Rattle.rc_rlang.specs.Shapes.{routine_in}
use Rattle.rc_graph.specs.Heads.{AreHeads}
use Rattle.rc_graph.specs.Nodes.{nodes_of}
use Rattle.rc_graph.proofs.graph.graph_of.Goals as goal

pub returns : goal.returns
returns c structs laid =
    let f = routine_in structs c.args.routine.now in
    let n = c.in_ok-names.ensures f refl (sym (ap (map ty_of) c.as_slice.ensures.value)) in
    record {
      nodes = c.in_ok-nodes.ensures structs (record { laid = laid; numbers = n }) ∙ ap (λ ns. nodes_of ns ++ routine_nodes f) c.new-all.ensures.items;
      hidden = n.hidden;
      result = c.in_ok-result.ensures f n ∙ ap (temporary_variable f) (c.in_ok-height.ensures structs);
      heads = subst (λ ns. AreHeads (nodes_of ns) c.in_ok-heads.heads.items) c.as_slice-2.ensures.value c.in_ok-heads.ensures;
    }
