use Rattle.std.proofs.Common.{rules, ◌≡◌, ◌+◌, ◌∙◌, suc, refl, ap, subst, length, arith}
use Rattle.std.specs.Prelude.{option_map}
use Rattle.std.proofs.lemmas.Option.{slice_get-map, slice_get_read}
use Rattle.rc_graph.specs.Heading.{IsMarked}
use Rattle.rc_graph.specs.Nodes.{node_of, nodes_of}
use Rattle.rc_graph.proofs.Headings.{grew_on, more_marked}
use Rattle.rc_graph.proofs.heads.mark_all.Goals as goal

pub loop-node-preserved : goal.loop-node-preserved
loop-node-preserved c =
    let nodes = c.args.nodes.now in
    let k = c.loop-node.node-index in
    let node = c.node-item.result in
    let there = slice_get-map node_of nodes k ∙ ap (option_map node_of) (slice_get_read nodes (length nodes) k node refl c.loop-node-test.true c.node-item.is) in
    let next : c.in_ok-next.next ≡ k + 1 = search rules in
    let behind : c.in_ok-next.next ≡ suc k = next ∙ omega arith in (
      grew_on c.args.heads.now c.loop-node.heads c.mark_node.new.heads c.loop-node.invariant.0 c.mark_node.ensures.grew,
      more_marked (nodes_of nodes) k (node_of node) c.loop-node.heads c.mark_node.new.heads there c.mark_node.ensures.grew c.loop-node.invariant.1
          (λ j edge is. subst (λ n. IsMarked n edge.to c.mark_node.new.heads) behind (c.mark_node.ensures.marked j edge is)),
      next,
    )
