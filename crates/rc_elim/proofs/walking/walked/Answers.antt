use Rattle.std.proofs.Common.{◌≡◌, ◌+◌, ◌∙◌, ◌<◌, suc, length, get_or, sym, ap, subst, arith}
use Rattle.std.specs.Prelude.{true}
use Rattle.std.proofs.lemmas.List.{length-map}
use Rattle.rc_facts.specs.Facts.{holds}
use Rattle.rc_facts.specs.Flow.{set_at}
use Rattle.rc_graph.specs.Nodes.{node_of, nodes_of}
use Rattle.rc_elim.specs.Asking.{AsksOver, bits_of}
use Rattle.rc_elim.proofs.Removing.{bits_end, found_there}
use Rattle.rc_elim.proofs.Walks.{bits_walked}
use Rattle.rc_elim.proofs.walking.walked.Goals as goal

pub is_proven-requires : goal.is_proven-requires
is_proven-requires c =
    let nodes = c.args.way.now.graph.now.nodes.items in
    let at = c.loop-at.at in
    let node = c.index-nodes-at.result in
    let value = c.as_slice-nodes.ensures.value in
    let below = subst (λ ns. at < length ns) value c.loop-at-test.true in
    let there = c.index-nodes-at.is ∙ ap (λ ns. get_or ns at node) value in
    subst (λ n. AsksOver n (node_of node)) (sym c.begin.ensures.variables) (c.requires.over at (node_of node) (found_there node_of nodes at node below there))

pub loop-at-preserved : goal.loop-at-preserved
loop-at-preserved c =
    let graph = c.args.way.now.graph.now in
    let at = c.loop-at.at in
    let node = c.index-nodes-at.result in
    let value = c.as_slice-nodes.ensures.value in
    let below = subst (λ ns. at < length ns) value c.loop-at-test.true in
    let there = c.index-nodes-at.is ∙ ap (λ ns. get_or ns at node) value in
    let k : at + 1 ≡ suc at = omega arith in
    record {
      wide = c.in_ok-go_on.ensures.variables;
      bits = λ all are. bits_walked graph c.args.way.now.exits.now c.args.sets.now all are at node c.is_proven.result (holds c.begin.new.work) c.loop-at.bits.items c.push.new.self.items below there c.is_proven.ensures (c.begin.ensures.here all are) c.in_ok-push.ensures.items (c.loop-at.invariant.bits all are);
      here = λ all are head. c.in_ok-go_on.ensures.next all are (ap (λ n. get_or graph.heads.items n true) (sym k) ∙ head) ∙ ap (set_at all) (sym k);
    }

pub returns : goal.returns
returns c = λ all are.
    let graph = c.args.way.now.graph.now in
    let over = c.loop-at-test.false in
    let as_many = length-map graph.nodes.items node_of in
    let value = ap length c.as_slice-nodes.ensures.value in
    bits_end (nodes_of graph.nodes.items) all c.loop-at.at c.loop-at.bits.items (bits_of (nodes_of graph.nodes.items) all) (omega (arith, over, as_many, value)) (c.loop-at.invariant.bits all are)
