use Rattle.std.proofs.Common.{◌≡◌, ◌++◌, sym, subst, length, take, drop, arith}
use Rattle.std.proofs.lemmas.Grind.{common_steps}
use Rattle.std.proofs.lemmas.List.{length-map}
use Rattle.rc_graph.specs.Heads.{AreHeads}
use Rattle.rc_graph.specs.Heading.{AreBegun, AreMarked, Grew}
use Rattle.rc_graph.specs.Nodes.{node_of, nodes_of}
use Rattle.rc_graph.proofs.Headings.{are_heads}
use Rattle.rc_graph.proofs.heads.heads_of.Goals as goal

pub returns : goal.returns
returns c =
    let nodes = c.args.nodes.now in
    let first = c.in_ok-heads.heads.items in
    let new = c.mark_all.new.heads in
    let long = sym (length-map nodes node_of) in
    let grew = subst (λ old. Grew old new) c.deref_mut.ensures.value c.in_ok-mark_all.ensures.grew in
    let same : take c.in_ok-heads.heads.len (new ++ drop (length new) first) ≡ new = (let a = grew.long in let b = c.in_ok-heads.heads.ok.0 in grind (arith, common_steps, a, b)) in
    subst (AreHeads (nodes_of nodes)) (sym same)
    (are_heads (nodes_of nodes) first new (subst (λ n. AreBegun (nodes_of nodes) n first) long c.in_ok-heads.ensures) grew (subst (λ n. AreMarked (nodes_of nodes) n new) long c.in_ok-mark_all.ensures.marked))
