use Rattle.std.proofs.Common.{◌≡◌, ◌∙◌, List, length, sym, ap, subst}
use Rattle.std.specs.Prelude.{Bool, false, replicate, IfOk}
use Rattle.std.proofs.lemmas.List.{length-map}
use Rattle.rc_graph.specs.Nodes.{node_of, nodes_of}
use Rattle.rc_elim.specs.Asking.{ask_anything}
use Rattle.rc_elim.proofs.Silent.{silent}
use Rattle.rc_elim.proofs.walking.proven.Goals as goal

pub returns : goal.returns
returns c = λ all are.
    let nodes = c.args.way.now.graph.now.nodes.items in
    let value = c.as_slice-nodes.ensures.value in
    let none : ask_anything (nodes_of nodes) ≡ false = ap (λ ns. ask_anything (nodes_of ns)) (sym value) ∙ sym c.ask_anything.ensures ∙ c.if-ask_anything.false in
    let long : length c.as_slice-nodes.result.now ≡ length (nodes_of nodes) = ap length value ∙ sym (length-map nodes node_of) in
    subst (λ (xs : List Bool). IfOk c.no_marks.result (λ bits. bits.items ≡ xs)) (ap (λ n. replicate n false) long ∙ sym (silent (nodes_of nodes) all are.spread.points none)) c.no_marks.ensures
