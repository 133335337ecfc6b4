-- A walk through a function, from head to head, comes to the sets of all points.
use Rattle.std.proofs.Common.{◌≡◌, ◌<◌, ◌≤◌, ◌+◌, ◌↔◌, ℕ, zero, suc, Bool, true, false, List, [], ◌∷◌, ◌++◌, length, map, get_or, drop, Option, Some, None, inl, inr, refl, sym, ap, ◌∙◌, subst, arith, IsTrue}
use Rattle.std.specs.Prelude.{slice_get, Result, Ok, Err, IfOk, OnOk}
use Rattle.std.specs.declared.vec.Vec.{Vec}
use Rattle.std.specs.declared.alloc.Global.{Global as Alloc}
use Rattle.std.proofs.Math.Path.{fun_ext}
use Rattle.std.proofs.lemmas.Bool.{cases_eq, cases_lt, cond-true, cond-false, eq-eqb, ne_eqb, false≢true}
use Rattle.std.proofs.lemmas.Grind.{common_steps}
use Rattle.std.proofs.lemmas.List.{length-map, length-append, map-append}
use Rattle.std.proofs.lemmas.Option.{get_or_from_slice_get, none-some, same_Some, slice_get-get_or, slice_get_within}
use Rattle.rc_core.specs.Shapes.{struct_of}
use Rattle.rc_facts.specs.declared.fact.Fact.{Fact}
use Rattle.rc_facts.specs.Facts.{Known}
use Rattle.rc_rlang.specs.RegionCode.{Routine}
use Rattle.rc_rlang.specs.RegionFlow.{Effect, nothing, nulled, moved, fixed, beside, made, under, loaded, looked_at, stored, present, absent, called, entered, Edge, Node, routine_nodes}
use Rattle.rc_rlang.specs.IsRlang.{IsRlang}
use Rattle.rc_rlang.specs.Shapes.{rlang_of, routine_in}
use Rattle.rc_rlang.specs.declared.code.RegionParts.{RegionParts}
use Rattle.rc_annotations.specs.Heights.{temporaries_in, temporaries_of}
use Rattle.rc_graph.specs.declared.graph.Graph.{Graph}
use Rattle.rc_graph.specs.declared.node.Node.{Node as CodeNode}
use Rattle.rc_graph.specs.Heads.{EdgeOf}
use Rattle.rc_graph.specs.Nodes.{IsGraph, node_of, nodes_of}
use Rattle.rc_facts.specs.Flow.{AreShut, Facts as FactsOf, HaveVariables, IsClosed, no_set, set_at}
use Rattle.rc_crossing.specs.Fitting.{CallFits}
use Rattle.rc_edges.specs.Calls.{CallOf}
use Rattle.rc_edges.specs.News.{places_of}
use Rattle.rc_edges.proofs.Fitting.{calls_fit}
use Rattle.rc_edges.specs.Edges.{Crossed, EffectBelow, NodeEdge, spare}
use Rattle.rc_edges.specs.Families.{Family, Owned}
use Rattle.rc_edges.specs.Heads.{Inferred, Spread}
use Rattle.rc_edges.specs.Inferred.{family_of}
use Rattle.rc_edges.specs.declared.facts.Facts.{Facts}
use Rattle.rc_edges.proofs.Owning.{functions_own}
use Rattle.rc_elim.specs.Asking.{AsksOver, bits_of}
use Rattle.rc_elim.specs.Masks.{is_proven, rows_of}
use Rattle.rc_elim.specs.Walking.{AreAll, Walkable, effect_to}
use Rattle.rc_elim.specs.Marking.{AreMarked, IsMarked}
use Rattle.rc_elim.proofs.Removing.{There, bits_step, found_there, mapped_there, node_over, read_there, there_at}

-- the one edge that leads to a point is the first one
pub found_alone : (edges : List Edge) (to place : ℕ) (edge : Edge) → slice_get edges place ≡ Some edge → edge.to ≡ to → ((k : ℕ) (other : Edge) → slice_get edges k ≡ Some other → other.to ≡ to → other ≡ edge) → effect_to edges to ≡ Some edge.effect
found_alone [] to place edge is leads alone = absurd (none-some _ is)
found_alone (e ∷ es) to zero edge is leads alone =
    let same = same_Some _ _ is in
    cond-true _ _ _ (eq-eqb e.to to (ap (λ (x : Edge). x.to) same ∙ leads)) ∙ ap (λ (x : Edge). Some x.effect) same
found_alone (e ∷ es) to (suc place) edge is leads alone = elim (cases_eq e.to to) [
  | inl here ↦ cond-true _ _ _ (eq-eqb e.to to here) ∙ ap (λ (x : Edge). Some x.effect) (alone 0 e refl here)
  | inr apart ↦ cond-false _ _ _ (ne_eqb e.to to apart) ∙ found_alone es to place edge is leads (λ k other there to_it. alone (suc k) other there to_it)
]

same_bools : (a b : Bool) → (IsTrue a → IsTrue b) → (IsTrue b → IsTrue a) → a ≡ b
same_bools true true there back = refl
same_bools true false there back = absurd (false≢true (there refl))
same_bools false true there back = absurd (false≢true (back refl))
same_bools false false there back = refl

-- what is carried over the edge to the next point is what is known there
pub carried : (graph : Graph) (exits sets all : List Known) (at : ℕ) (edge : Edge) (old new : FactsOf) → AreAll graph exits sets all → get_or graph.heads.items (suc at) true ≡ false → EdgeOf (nodes_of graph.nodes.items) at edge → edge.to ≡ suc at →
    old ≡ set_at all at → ((fact : Fact) → IsTrue (new fact) ↔ Crossed (set_at exits) graph.result edge.effect old fact) → new ≡ set_at all (suc at)
carried graph exits sets all at edge old new are head of leads was now = fun_ext (λ fact.
    let here : IsTrue (set_at all (suc at) fact) ↔ Crossed (set_at exits) graph.result edge.effect old fact = subst (λ (o : FactsOf). IsTrue (set_at all (suc at) fact) ↔ Crossed (set_at exits) graph.result edge.effect o fact) (sym was) (are.spread.inner at edge fact head of leads) in
    same_bools (new fact) (set_at all (suc at) fact) (λ is. here.1 ((now fact).0 is)) (λ is. (now fact).1 (here.0 is)))

places_count : (arguments : List ℕ) (x : Option ℕ) → length (places_of arguments x) ≤ suc (length arguments)
places_count arguments None = let q = length-append arguments [] in omega (arith, q)
places_count arguments (Some v) = let q = length-append arguments (v ∷ []) in omega (arith, q)

call_fits_by : (exits : List Known) (effect : Effect) → ((x : Option ℕ) (h : ℕ) (arguments : List ℕ) → effect ≡ called x h arguments → (h < length exits) × (length (places_of arguments x) ≤ (get_or exits h no_set).variables)) → CallFits exits effect
call_fits_by exits nothing h = tt {0}
call_fits_by exits (nulled x) h = tt {0}
call_fits_by exits (moved x y) h = tt {0}
call_fits_by exits (fixed x) h = tt {0}
call_fits_by exits (beside x y) h = tt {0}
call_fits_by exits (made x) h = tt {0}
call_fits_by exits (under x y) h = tt {0}
call_fits_by exits (loaded x y note) h = tt {0}
call_fits_by exits (looked_at y) h = tt {0}
call_fits_by exits (stored z y note) h = tt {0}
call_fits_by exits (present y) h = tt {0}
call_fits_by exits (absent y) h = tt {0}
call_fits_by exits (called x g arguments) h = h x g arguments refl
call_fits_by exits (entered pairs) h = tt {0}

-- ---- what is inferred may be walked through

module _ (parts : RegionParts) (facts : Facts) (code : IsRlang (rlang_of parts)) (inferred : Inferred parts facts) (g : ℕ) (f : Routine) (there : slice_get (rlang_of parts).functions g ≡ Some f) (graph : Graph) (found : slice_get facts.graphs.items g ≡ Some graph) where
  abbrev t : ℕ → ℕ
  t = temporaries_of (rlang_of parts)

  of : IsGraph f graph
  of = inferred.graphs.each g f graph there found

  result_is : graph.result ≡ spare f (t g)
  result_is = of.result ∙ ap (spare f) (sym (ap temporaries_in there))

  owned : Owned (rlang_of parts) t g f
  owned = functions_own (rlang_of parts) code g f there

  pub nodes_are : nodes_of graph.nodes.items ≡ routine_nodes f
  nodes_are = of.nodes

  pub points_there : g < length facts.points.items
  points_there = elim (cases_lt g (length facts.points.items)) [
    | inl inside ↦ inside
    | inr past ↦
        (let long = length-map facts.points.items (λ s. s.items) in
        let none : get_or (family_of facts).points g [] ≡ [] = grind (arith, common_steps, past, long) in
        let kept_long = (inferred.spread g graph found).long in
        let empty = ap length none in
        let nodes = ap length of.nodes in
        absurd (omega (arith, kept_long, empty, nodes)))
  ]

  pub are_all : AreAll graph facts.exits.items (get_or (family_of facts).points g []) (get_or inferred.family.points g [])
  are_all = record {
    spread = subst (λ exits. Spread (nodes_of graph.nodes.items) graph.heads.items graph.result exits (get_or (family_of facts).points g []) (get_or inferred.family.points g [])) inferred.exits (inferred.spread g graph found);
    variables = subst (λ n. HaveVariables (suc n) (get_or inferred.family.points g [])) (sym result_is) (inferred.shaped.each g f there).before;
    shut = subst (λ n. AreShut (suc n) n (get_or inferred.family.points g [])) (sym result_is) (inferred.shut g f there);
  }

  node_there : (p : ℕ) (node : Node) → slice_get (nodes_of graph.nodes.items) p ≡ Some node → slice_get (routine_nodes f) p ≡ Some node
  node_there p node at = subst (λ ns. slice_get ns p ≡ Some node) of.nodes at

  fits_there : (p : ℕ) (node : Node) (k : ℕ) (edge : Edge) → slice_get (nodes_of graph.nodes.items) p ≡ Some node → slice_get node.edges k ≡ Some edge → CallFits facts.exits.items edge.effect × EffectBelow graph.result edge.effect
  fits_there p node k edge at is_edge =
      let one : NodeEdge f p edge = record { node = node; place = k; there = node_there p node at; is = is_edge } in (
        subst (λ exits. CallFits exits edge.effect) inferred.exits (call_fits_by inferred.family.exits edge.effect (λ x h arguments e. (
            let call : CallOf (rlang_of parts) h arguments = calls_fit (rlang_of parts) code g f there p edge x h arguments one e in
            let within = slice_get_within (rlang_of parts).functions h call.routine call.there in
            let exit = (inferred.shaped.each h call.routine call.there).exit in
            let places = places_count arguments x in
            let each = call.each in
            let long = inferred.shaped.exits in
            (omega (arith, within, long), omega (arith, exit, places, each))))),
        subst (λ n. EffectBelow n edge.effect) (sym result_is) (owned.own p edge one),
      )

  pub walkable : Walkable graph facts.exits.items (get_or (family_of facts).points g [])
  walkable = record {
    all = get_or inferred.family.points g [];
    are = are_all;
    heads = of.heads;
    few = (let q = result_is in let few = owned.few in omega (arith, q, few));
    fits = fits_there;
    over = λ p node at. subst (λ n. AsksOver (suc n) node) (sym result_is) (node_over f (t g) p node owned.own (node_there p node at));
  }

-- ---- one step of a walk

pub after_ok : {T E P Q : Type 0} (r : Result T E) → (P → Q) → OnOk r P → OnOk r Q
after_ok (Ok x) f p = f p
after_ok (Err e) f p = tt

-- the edge to the next point, and what it does
pub record Step (graph : Graph) (at : ℕ) (done : Effect) : Type 0 where
  pub edge : Edge
  pub of : EdgeOf (nodes_of graph.nodes.items) at edge
  pub leads : edge.to ≡ suc at
  pub is : done ≡ edge.effect

pub step_there : (graph : Graph) (exits sets : List Known) → Walkable graph exits sets → (at next : ℕ) (node : CodeNode) (head : Bool) (done : Effect) → at < length graph.nodes.items → head ≡ get_or graph.heads.items (at + 1) head → head ≡ false → node ≡ get_or graph.nodes.items at node → next ≡ at + 1 →
    Some done ≡ effect_to (node_of node).edges next → Step graph at done
step_there graph exits sets walkable at next node head done below found no_head there one_on is =
    let nodes = nodes_of graph.nodes.items in
    let k : at + 1 ≡ suc at = omega arith in
    let long = walkable.heads.long in
    let as_many = length-map graph.nodes.items node_of in
    let here : get_or graph.heads.items (suc at) true ≡ false = ap (λ n. get_or graph.heads.items n true) (sym k) ∙ read_there graph.heads.items (at + 1) head true (omega (arith, below, long, as_many)) found ∙ no_head in
    let comes = walkable.heads.inner at here in
    let edge = comes.0 in
    let alone = comes.1 in
    let of = alone.of in
    let at_node : of.node ≡ node_of node = same_Some _ _ (sym of.there ∙ found_there node_of graph.nodes.items at node below there) in
    let first = found_alone of.node.edges (suc at) of.place edge of.is alone.leads (λ j other is_other to_it. (alone.alone at other (record { node = of.node; place = j; there = of.there; is = is_other }) to_it).1) in
    record {
      edge = edge;
      of = of;
      leads = alone.leads;
      is = same_Some _ _ (is ∙ ap (effect_to (node_of node).edges) (one_on ∙ k) ∙ ap (λ (n : Node). effect_to n.edges (suc at)) (sym at_node) ∙ first);
    }

pub step_fits : (graph : Graph) (exits sets : List Known) → Walkable graph exits sets → (at : ℕ) (done : Effect) → Step graph at done → CallFits exits done × EffectBelow graph.result done
step_fits graph exits sets walkable at done step = subst (λ effect. CallFits exits effect × EffectBelow graph.result effect) (sym step.is) (walkable.fits at step.of.node step.of.place step.edge step.of.there step.of.is)

pub closed_there : (graph : Graph) (exits sets : List Known) → Walkable graph exits sets → (at : ℕ) (work : FactsOf) → at < length graph.nodes.items → ((all : List Known) → AreAll graph exits sets all → work ≡ set_at all at) → IsClosed (suc graph.result) graph.result work
closed_there graph exits sets walkable at work below here =
    let long = walkable.are.spread.points in
    let as_many = length-map graph.nodes.items node_of in
    subst (IsClosed (suc graph.result) graph.result) (sym (here walkable.all walkable.are)) (walkable.are.shut at (omega (arith, below, long, as_many)))

pub stepped : (graph : Graph) (exits sets : List Known) (at : ℕ) (done : Effect) (old new : FactsOf) → Step graph at done → ((all : List Known) → AreAll graph exits sets all → old ≡ set_at all at) → ((fact : Fact) → IsTrue (new fact) ↔ Crossed (set_at exits) graph.result done old fact) →
    (all : List Known) → AreAll graph exits sets all → get_or graph.heads.items (suc at) true ≡ false → new ≡ set_at all (suc at)
stepped graph exits sets at done old new step here now all are head =
    carried graph exits sets all at step.edge old new are head step.of step.leads (here all are) (λ fact. subst (λ effect. IsTrue (new fact) ↔ Crossed (set_at exits) graph.result effect old fact) step.is (now fact))

-- ---- the bits of a walk

pub bits_walked : (graph : Graph) (exits sets all : List Known) → AreAll graph exits sets all → (at : ℕ) (node : CodeNode) (bit : Bool) (work : FactsOf) (before after : List Bool) → at < length graph.nodes.items → node ≡ get_or graph.nodes.items at node → bit ≡ is_proven (node_of node) work → work ≡ set_at all at → after ≡ before ++ bit ∷ [] →
    before ++ bits_of (drop at (nodes_of graph.nodes.items)) (drop at all) ≡ bits_of (nodes_of graph.nodes.items) all → after ++ bits_of (drop (at + 1) (nodes_of graph.nodes.items)) (drop (at + 1) all) ≡ bits_of (nodes_of graph.nodes.items) all
bits_walked graph exits sets all are at node bit work before after below there bit_is work_is after_is so_far =
    let nodes = nodes_of graph.nodes.items in
    let as_many = length-map graph.nodes.items node_of in
    let points = are.spread.points in
    let inside : at < length all = omega (arith, below, points, as_many) in
    let facts = get_or all at no_set in
    ap (λ xs. xs ++ bits_of (drop (at + 1) nodes) (drop (at + 1) all)) (after_is ∙ ap (λ x. before ++ x ∷ []) (bit_is ∙ ap (is_proven (node_of node)) work_is))
    ∙ bits_step nodes all at (node_of node) facts before (bits_of nodes all) (omega (arith, below, as_many)) inside (sym (mapped_there node_of graph.nodes.items at node (node_of node) below there)) (sym (get_or_from_slice_get all at facts facts (slice_get-get_or all at no_set inside))) so_far

-- ---- the marks of a function

module _ (parts : RegionParts) (facts : Facts) (code : IsRlang (rlang_of parts)) (inferred : Inferred parts facts) (g : ℕ) (there : g < length parts.functions.items) (graph : Graph) (found : graph ≡ get_or facts.graphs.items g graph) where
  routine : There (rlang_of parts).functions g
  routine = there_at (rlang_of parts).functions g (let long = length-map parts.functions.items (routine_in (map struct_of parts.structs.items)) in omega (arith, there, long))

  graph_inside : g < length facts.graphs.items
  graph_inside = (let long = inferred.graphs.long in let within = slice_get_within (rlang_of parts).functions g routine.it routine.is in omega (arith, long, within))

  graph_there : slice_get facts.graphs.items g ≡ Some graph
  graph_there = slice_get-get_or facts.graphs.items g graph graph_inside ∙ ap (λ x. Some x) (sym found)

  pub sets_inside : g < length facts.points.items
  sets_inside = points_there parts facts code inferred g routine.it routine.is graph graph_there

  module _ (sets : Vec _ Alloc) (are : sets ≡ get_or facts.points.items g sets) where
    sets_are : get_or (family_of facts).points g [] ≡ sets.items
    sets_are = mapped_there (λ s. s.items) facts.points.items g sets [] sets_inside are

    pub may_be_walked : Walkable graph facts.exits.items sets.items
    may_be_walked = subst (Walkable graph facts.exits.items) sets_are (walkable parts facts code inferred g routine.it routine.is graph graph_there)

    pub all_there : AreAll graph facts.exits.items sets.items (get_or inferred.family.points g [])
    all_there = subst (λ kept. AreAll graph facts.exits.items kept (get_or inferred.family.points g [])) sets_are (are_all parts facts code inferred g routine.it routine.is graph graph_there)

    pub marked_if : {E : Type 0} (result : Result (Vec Bool Alloc) E) → IfOk result (λ bits. bits.items ≡ bits_of (nodes_of graph.nodes.items) (get_or inferred.family.points g [])) → IfOk result (λ bits. IsMarked parts inferred.family g bits.items)
    marked_if (Ok bits) is = λ f there_f.
        is ∙ ap (λ ns. bits_of ns (get_or inferred.family.points g [])) (nodes_are parts facts code inferred g routine.it routine.is graph graph_there)
        ∙ ap (λ (h : Routine). bits_of (routine_nodes h) (get_or inferred.family.points g [])) (same_Some _ _ (sym routine.is ∙ there_f))
    marked_if (Err fault) is = tt

-- one function more
pub marked_more : (parts : RegionParts) (family : Family) (k : ℕ) (rows : List (Vec Bool Alloc)) (row : Vec Bool Alloc) → AreMarked parts family k (rows_of rows) → IsMarked parts family k row.items → AreMarked parts family (k + 1) (rows_of (rows ++ row ∷ []))
marked_more parts family k rows row before here =
    let mapped : rows_of (rows ++ row ∷ []) ≡ rows_of rows ++ row.items ∷ [] = map-append (λ (v : Vec Bool Alloc). v.items) rows (row ∷ []) in
    let long = before.functions in
    subst (AreMarked parts family (k + 1)) (sym mapped) (record {
      functions = grind (arith, common_steps, long);
      each = λ g below. elim (cases_eq g k) [
        | inl last ↦ subst (IsMarked parts family g) (grind (arith, common_steps, long, last)) (subst (λ n. IsMarked parts family n row.items) (sym last) here)
        | inr apart ↦ subst (IsMarked parts family g) (grind (arith, common_steps, long, apart, below)) (before.each g (omega (arith, below, apart)))
      ];
    })
