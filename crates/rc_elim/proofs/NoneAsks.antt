-- Code in which no check asks for a fact: none may go.
use Rattle.std.proofs.Common.{◌≡◌, ◌<◌, ◌∙◌, ℕ, zero, suc, Bool, true, false, List, [], ◌∷◌, length, sym, ap, subst, Some, true≢false}
use Rattle.std.specs.Prelude.{slice_get, is_some, ◌||◌, Result, Ok, Err, IfOk}
use Rattle.std.proofs.lemmas.Option.{slice_get_within}
use Rattle.rc_rlang.specs.RegionCode.{Rlang}
use Rattle.rc_rlang.specs.RegionFlow.{Node}
use Rattle.rc_annotations.specs.Annotations.{Removable, asked_by}
use Rattle.rc_annotations.specs.Heights.{temporaries_of}
use Rattle.rc_graph.specs.Nodes.{AreGraphs, nodes_of}
use Rattle.rc_graph.specs.declared.graph.Graph.{Graph}
use Rattle.rc_elim.specs.Asking.{ask_anything, asks_in_any}
use Rattle.rc_elim.specs.Masks.{MarksRemovable, marks_in}
use Rattle.rc_elim.proofs.Removing.{there_at}
use Rattle.rc_elim.proofs.Silent.{neither}

silent_node : (nodes : List Node) (p : ℕ) (node : Node) → ask_anything nodes ≡ false → slice_get nodes p ≡ Some node → is_some (asked_by node) ≡ false
silent_node [] zero node e is = absurd cc
silent_node [] (suc p) node e is = absurd cc
silent_node (n ∷ nodes) zero node e is = let q : n ≡ node = cc in ap (λ m. is_some (asked_by m)) (sym q) ∙ (neither (is_some (asked_by n)) (ask_anything nodes) e).0
silent_node (n ∷ nodes) (suc p) node e is = silent_node nodes p node (neither (is_some (asked_by n)) (ask_anything nodes) e).1 is

silent_graph : (graphs : List Graph) (g : ℕ) (graph : Graph) → asks_in_any graphs ≡ false → slice_get graphs g ≡ Some graph → ask_anything (nodes_of graph.nodes.items) ≡ false
silent_graph [] zero graph e is = absurd cc
silent_graph [] (suc g) graph e is = absurd cc
silent_graph (x ∷ graphs) zero graph e is = let q : x ≡ graph = cc in ap (λ y. ask_anything (nodes_of y.nodes.items)) (sym q) ∙ (neither (ask_anything (nodes_of x.nodes.items)) (asks_in_any graphs) e).0
silent_graph (x ∷ graphs) (suc g) graph e is = silent_graph graphs g graph (neither (ask_anything (nodes_of x.nodes.items)) (asks_in_any graphs) e).1 is

none_removable : (r : Rlang) (graphs : List Graph) → AreGraphs r (length r.functions) graphs → asks_in_any graphs ≡ false → (g p : ℕ) → Removable r (temporaries_of r) g p → ⊥
none_removable r graphs are e g p removable =
    let q = removable.proven in
    let within : g < length graphs = subst (λ n. g < n) (sym are.long) (slice_get_within r.functions g q.routine q.there) in
    let graph = there_at graphs g within in
    let of = are.each g q.routine graph.it q.there graph.is in
    let here = subst (λ ns. slice_get ns p ≡ Some q.node) (sym of.nodes) q.at_point in
    let none = silent_node (nodes_of graph.it.nodes.items) p q.node (silent_graph graphs g graph.it e graph.is) here in
    let some : is_some (asked_by q.node) ≡ true = ap is_some q.asks in
    true≢false (sym some ∙ none)

-- so a mask without a mark marks exactly what may go
pub none_marked : (r : Rlang) (graphs : List Graph) (rows : List (List Bool)) → AreGraphs r (length r.functions) graphs → asks_in_any graphs ≡ false → ((g p : ℕ) → marks_in rows g p ≡ false) → MarksRemovable r (marks_in rows)
none_marked r graphs rows are e none = λ g p. (λ is. absurd (true≢false (sym is ∙ none g p)), λ removable. absurd (none_removable r graphs are e g p removable))

pub none_marked_answer : {E : Type 0} (r : Rlang) (graphs : List Graph) (result : Result (List (List Bool)) E) → AreGraphs r (length r.functions) graphs → asks_in_any graphs ≡ false → IfOk result (λ rows. (g p : ℕ) → marks_in rows g p ≡ false) → IfOk result (λ rows. MarksRemovable r (marks_in rows))
none_marked_answer r graphs (Ok rows) are e none = none_marked r graphs rows are e none
none_marked_answer r graphs (Err x) are e none = tt
