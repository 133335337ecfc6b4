use Rattle.std.proofs.Common.{rules, ◌≡◌, ◌+◌, ◌∙◌, refl, ap, sym, subst, length, arith}
use Rattle.std.specs.Prelude.{option_map}
use Rattle.std.proofs.lemmas.Option.{slice_get-map, slice_get_read}
use Rattle.rc_graph.specs.Heading.{AreBegun}
use Rattle.rc_graph.specs.Heads.{LeadsAlone}
use Rattle.rc_graph.specs.Nodes.{node_of, nodes_of}
use Rattle.rc_graph.proofs.Headings.{begun_more}
use Rattle.rc_graph.proofs.heads.begun.Goals as goal

pub loop-node-preserved : goal.loop-node-preserved
loop-node-preserved c =
    let nodes = c.args.nodes.now in
    let k = c.loop-node.node-index in
    let node = c.node-item.result in
    let there = slice_get-map node_of nodes k ∙ ap (option_map node_of) (slice_get_read nodes (length nodes) k node refl c.loop-node-test.true c.node-item.is) in
    let next : c.in_ok-next.next ≡ k + 1 = search rules in (
      subst (AreBegun (nodes_of nodes) (k + 1)) (sym c.in_ok-push-2.ensures.items)
          (begun_more (nodes_of nodes) k (node_of node) c.loop-node.heads.items c.leads_alone.result there c.loop-node.invariant.0 (λ is. subst (λ n. (edge : _) × LeadsAlone (node_of node) n edge) (next ∙ omega arith) (c.leads_alone.ensures is))),
      next,
    )
