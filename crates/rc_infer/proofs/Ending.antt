-- Where the search ends.
use Rattle.std.proofs.Common.{◌≡◌, ℕ, suc, ◌∙◌, ◌&&◌, true, false, List, [], length, get_or, Some, refl, sym, ap, subst, arith}
use Rattle.std.specs.Prelude.{slice_get}
use Rattle.std.proofs.lemmas.List.{length-map}
use Rattle.std.proofs.lemmas.Option.{slice_get_within}
use Rattle.rc_facts.specs.Derivable.{Derivable}
use Rattle.rc_facts.specs.Facts.{is_over, names}
use Rattle.rc_rlang.specs.RegionCode.{Routine, Rlang}
use Rattle.rc_rlang.specs.IsRlang.{IsRlang}
use Rattle.rc_rlang.specs.RegionFlow.{Node, copies, routine_nodes}
use Rattle.rc_rlang.specs.Shapes.{rlang_of}
use Rattle.rc_rlang.specs.declared.code.RegionParts.{RegionParts}
use Rattle.rc_annotations.specs.Heights.{temporaries_in, temporaries_of}
use Rattle.rc_facts.specs.Flow.{no_set, set_at}
use Rattle.rc_graph.specs.declared.graph.Graph.{Graph}
use Rattle.rc_graph.specs.Nodes.{AreGraphs, IsGraph, node_of, nodes_of}
use Rattle.rc_edges.specs.Boundaries.{NodeReturns}
use Rattle.rc_edges.specs.Edges.{Crossed, spare}
use Rattle.rc_edges.specs.Families.{Family, Settled, annotation_in}
use Rattle.rc_edges.specs.Heads.{Inferred, Spread}
use Rattle.rc_edges.specs.Inferred.{family_of}
use Rattle.rc_edges.specs.declared.facts.Facts.{Facts}
use Rattle.rc_edges.proofs.Steps.{ended, settled_by}
use Rattle.rc_infer.specs.Walking.{Done, Found, FunctionDone}
use Rattle.rc_infer.proofs.Places.{some_at}

module _ (r : Rlang) (graphs : List Graph) (is : IsRlang r) (own : AreGraphs r (length r.functions) graphs) (g : ℕ) (f : Routine) (there : slice_get r.functions g ≡ Some f) (graph : Graph) (of : IsGraph f graph) (all : Family) (done : FunctionDone graph g (get_or all.points g []) all.entries all.exits) where
  result_is : graph.result ≡ spare f (temporaries_of r g)
  result_is = of.result ∙ ap (spare f) (sym (ap temporaries_in there))

  count_is : length graph.nodes.items ≡ length (routine_nodes f)
  count_is = sym (length-map graph.nodes.items node_of) ∙ ap length of.nodes

  node_back : (p : ℕ) (node : Node) → slice_get (routine_nodes f) p ≡ Some node → slice_get (nodes_of graph.nodes.items) p ≡ Some node
  node_back p node here = subst (λ ns. slice_get ns p ≡ Some node) (sym of.nodes) here

  at : (p : ℕ) (node : Node) → slice_get (routine_nodes f) p ≡ Some node → Done graph g (get_or all.points g []) all.entries all.exits p
  at p node here = done.done p (let w = slice_get_within (routine_nodes f) p node here in let q = count_is in omega (arith, w, q))

  pub settled : Settled r (temporaries_of r) (annotation_in all) g f
  settled = settled_by r is g f there all
      (λ p edge fact one has. subst (λ n. Crossed (set_at all.exits) n edge.effect (set_at (get_or all.points g []) p) fact) result_is ((at p one.node one.there).along edge fact (record { node = one.node; place = one.place; there = node_back p one.node one.there; is = one.is }) has))
      (λ p node h fact here has. (at p node here).calls node h fact (node_back p node here) has)
      (λ fact has.
      subst (λ n. Derivable (suc n) (λ q. is_over (copies f) q && set_at all.entries g q) fact × (names n fact ≡ false)) result_is
      (subst (λ n. Derivable (suc graph.result) (λ q. is_over n q && set_at all.entries g q) fact × (names graph.result fact ≡ false)) of.hidden (done.entry fact has refl)))
      (λ p node fact here has. subst (λ n. NodeReturns node (get_or (get_or all.points g []) p no_set) (copies f) n fact) result_is (subst (λ n. NodeReturns node (get_or (get_or all.points g []) p no_set) n graph.result fact) of.hidden ((at p node here).returns node fact (node_back p node here) has)))

module _ (code : RegionParts) (facts : Facts) (is : IsRlang (rlang_of code)) (own : AreGraphs (rlang_of code) (length (rlang_of code).functions) facts.graphs.items) (found : Found (rlang_of code) facts.graphs.items (family_of facts)) where
  abbrev r : Rlang
  r = rlang_of code

  graph_at : (g : ℕ) (f : Routine) → slice_get r.functions g ≡ Some f → (graph : Graph) × (slice_get facts.graphs.items g ≡ Some graph)
  graph_at g f there = some_at facts.graphs.items g (let w = slice_get_within r.functions g f there in let q = own.long in omega (arith, w, q))

  routine_at : (g : ℕ) (graph : Graph) → slice_get facts.graphs.items g ≡ Some graph → (f : Routine) × (slice_get r.functions g ≡ Some f)
  routine_at g graph at = some_at r.functions g (let w = slice_get_within facts.graphs.items g graph at in let q = own.long in omega (arith, w, q))

  spread : (g : ℕ) (graph : Graph) → slice_get facts.graphs.items g ≡ Some graph → Spread (nodes_of graph.nodes.items) graph.heads.items graph.result found.all1.exits (get_or (family_of facts).points g []) (get_or found.all1.points g [])
  spread g graph at =
      let f = routine_at g graph at in
      let of = own.each g f.0 graph f.1 at in
      let long : length (get_or found.all1.points g []) ≡ length (nodes_of graph.nodes.items) = (found.covers.searching.shaped.each g f.0 f.1).points ∙ sym (ap length of.nodes) in
      record {
        points = long;
        long = found.covers.long g ∙ long;
        here = λ p head. found.covers.here g p graph at head;
        inner = λ p edge fact inner one to. (
            let done = (found.done g graph at).done p (let w = slice_get_within (nodes_of graph.nodes.items) p one.node one.there in let q = length-map graph.nodes.items node_of in omega (arith, w, q)) in
            let back = ap (λ t. set_at (get_or found.all1.points g []) t fact) to in (
              λ has. done.along edge fact one (back ∙ has),
              λ d. sym back ∙ done.back edge fact one (ap (λ t. get_or graph.heads.items t true) to ∙ inner) d,
            ));
      }

  pub inferred : Inferred code facts
  inferred = record {
    family = found.all1;
    graphs = own;
    spread = spread;
    entries = found.covers.entries;
    exits = found.covers.exits;
    shaped = found.covers.searching.shaped;
    shut = found.covers.searching.shut;
    greatest = ended r is found.all1 found.covers.searching (λ g f there. (let q = graph_at g f there in settled r facts.graphs.items is own g f there q.0 (own.each g f q.0 there q.1) found.all1 (found.done g q.0 q.1)));
  }
