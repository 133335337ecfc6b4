-- The steps of a walk at a point keep sets from which a search may go on.
use Rattle.std.proofs.Common.{◌≡◌, ℕ, zero, suc, ◌<◌, ◌≤◌, ◌↔◌, ◌&&◌, Bool, true, false, IsTrue, List, [], ◌∷◌, length, get_or, Option, Some, None, refl, sym, ap, ◌∙◌, subst, arith, inl, inr}
use Rattle.std.specs.Prelude.{MatchBool, slice_get, slice_set}
use Rattle.std.specs.List.{All}
use Rattle.std.proofs.lemmas.Bool.{cases_Bool, true≢false}
use Rattle.std.proofs.lemmas.List.{length-map, length-append, length-set, get_or-set_same, get_or-set_other}
use Rattle.std.proofs.lemmas.List.Elements.{All-nil, All-cons}
use Rattle.std.proofs.lemmas.Option.{slice_get_within, same_Some}
use Rattle.rc_facts.specs.declared.fact.Fact.{Fact}
use Rattle.rc_facts.specs.Derivable.{Derivable}
use Rattle.rc_facts.specs.Facts.{Known, holds, is_over, names}
use Rattle.rc_rlang.specs.RegionCode.{Routine, Rlang}
use Rattle.rc_rlang.specs.IsRlang.{IsRlang}
use Rattle.rc_rlang.specs.RegionFlow.{Effect, nothing, nulled, moved, fixed, beside, made, under, loaded, looked_at, stored, present, absent, called, entered, Edge, Node, copies, routine_nodes}
use Rattle.rc_rlang.specs.RegionVariables.{routine_temporaries}
use Rattle.rc_annotations.specs.Annotations.{Annotation, Consistent}
use Rattle.rc_annotations.specs.Heights.{temporaries_in, temporaries_of}
use Rattle.rc_facts.specs.Flow.{no_set, set_at}
use Rattle.rc_facts.proofs.Table.{follows_cut}
use Rattle.rc_graph.specs.declared.graph.Graph.{Graph}
use Rattle.rc_graph.specs.Heads.{EdgeOf}
use Rattle.rc_graph.specs.Nodes.{AreGraphs, IsGraph, nodes_of, node_of}
use Rattle.rc_edges.specs.Edges.{Crossed, EffectBelow, NodeEdge, all_below, kept, spare}
use Rattle.rc_edges.specs.Families.{Family, Owned}
use Rattle.rc_edges.specs.Inferred.{only_of}
use Rattle.rc_edges.specs.News.{places_of}
use Rattle.rc_edges.specs.Calls.{CallOf}
use Rattle.rc_edges.specs.Reading.{Loses}
use Rattle.rc_edges.specs.Boundaries.{NodeGives, NodeReturns}
use Rattle.rc_edges.specs.Searching.{with_points, with_entries, with_exits}
use Rattle.rc_edges.proofs.Fitting.{calls_fit, returns_fit}
use Rattle.rc_edges.proofs.Owning.{functions_own}
use Rattle.rc_edges.proofs.Steps.{Stands, call_step, crossed_inside, crossed_shut, crossed_stands, entered_inside, leave_step, row_step, stands, stands_less}
use Rattle.rc_crossing.specs.Fitting.{CallFits}
use Rattle.rc_passing.specs.Leading.{GoesOnAlone, IsLed, LeadsOn, NodeLeads}
use Rattle.rc_infer.specs.Covering.{Covers, Ready, known_at}
use Rattle.rc_infer.specs.Steps.{CalledFrom, CameIn, FollowsEntry, LeftFrom, RowLost}
use Rattle.rc_infer.proofs.Lists.{merged, merged_head, merged_inner, merged_long, past_end, side}
use Rattle.rc_infer.proofs.Places.{pick, some_at}

call_fits_by : (exits : List Known) (effect : Effect) → ((x : Option ℕ) (h : ℕ) (arguments : List ℕ) → effect ≡ called x h arguments → (h < length exits) × (length (places_of arguments x) ≤ (get_or exits h no_set).variables)) → CallFits exits effect
call_fits_by exits nothing h = tt {0}
call_fits_by exits (nulled x) h = tt {0}
call_fits_by exits (moved x y) h = tt {0}
call_fits_by exits (fixed x) h = tt {0}
call_fits_by exits (beside x y) h = tt {0}
call_fits_by exits (made x) h = tt {0}
call_fits_by exits (under x y) h = tt {0}
call_fits_by exits (loaded x y note) h = tt {0}
call_fits_by exits (looked_at y) h = tt {0}
call_fits_by exits (stored z y note) h = tt {0}
call_fits_by exits (present y) h = tt {0}
call_fits_by exits (absent y) h = tt {0}
call_fits_by exits (called x g arguments) h = h x g arguments refl
call_fits_by exits (entered pairs) h = tt {0}

places_count : (arguments : List ℕ) (x : Option ℕ) → length (places_of arguments x) ≤ suc (length arguments)
places_count arguments None = let q = length-append arguments [] in omega (arith, q)
places_count arguments (Some v) = let q = length-append arguments (v ∷ []) in omega (arith, q)

each_below : (n : ℕ) (xs : List ℕ) → all_below n xs → All (λ v. v < n) xs
each_below n [] b = All-nil (λ v. v < n)
each_below n (x ∷ xs) b = All-cons (λ v. v < n) x xs b.0 (each_below n xs b.1)

wider : (n : ℕ) (xs : List ℕ) → all_below n xs → all_below (suc n) xs
wider n [] b = tt {0}
wider n (x ∷ xs) b = ((let l = b.0 in omega (arith, l)), wider n xs b.1)

pub of_false : (A B : Type 0) (b : Bool) → b ≡ false → MatchBool b A B → B
of_false A B true e h = absurd (true≢false e)
of_false A B false e h = h

module _ (r : Rlang) (graphs : List Graph) (is : IsRlang r) (own : AreGraphs r (length r.functions) graphs) (g : ℕ) (graph : Graph) (at : slice_get graphs g ≡ Some graph) where
  pub routine : (f : Routine) × (slice_get r.functions g ≡ Some f)
  routine = some_at r.functions g (let w = slice_get_within graphs g graph at in let q = own.long in omega (arith, w, q))

  abbrev f : Routine
  f = routine.0

  abbrev there : slice_get r.functions g ≡ Some f
  there = routine.1

  of : IsGraph f graph
  of = own.each g f graph there at

  height : temporaries_of r g ≡ routine_temporaries f
  height = ap temporaries_in there

  pub result_is : graph.result ≡ spare f (temporaries_of r g)
  result_is = of.result ∙ ap (spare f) (sym height)

  pub count_is : length graph.nodes.items ≡ length (routine_nodes f)
  count_is = sym (length-map graph.nodes.items node_of) ∙ ap length of.nodes

  owned : Owned r (temporaries_of r) g f
  owned = functions_own r is g f there

  pub node_there : (p : ℕ) (node : Node) → slice_get (nodes_of graph.nodes.items) p ≡ Some node → slice_get (routine_nodes f) p ≡ Some node
  node_there p node here = subst (λ ns. slice_get ns p ≡ Some node) of.nodes here

  edge_there : (p : ℕ) (edge : Edge) → EdgeOf (nodes_of graph.nodes.items) p edge → NodeEdge f p edge
  edge_there p edge one = record { node = one.node; place = one.place; there = node_there p one.node one.there; is = one.is }

  own_arguments : (p : ℕ) (edge : Edge) (x : Option ℕ) (h : ℕ) (arguments : List ℕ) → NodeEdge f p edge → edge.effect ≡ called x h arguments → all_below (spare f (temporaries_of r g)) arguments
  own_arguments p edge x h arguments one e = (subst (EffectBelow (spare f (temporaries_of r g))) e (owned.own p edge one)).1

  pub leads_within : (p : ℕ) (edge : Edge) → EdgeOf (nodes_of graph.nodes.items) p edge → edge.to < length graph.nodes.items
  leads_within p edge one = (let l = owned.leads p edge (edge_there p edge one) in let q = count_is in omega (arith, l, q))

  -- a point that is no head is behind the one from which its edge comes
  pub comes_next : (p : ℕ) (edge : Edge) → EdgeOf (nodes_of graph.nodes.items) p edge → (t : ℕ) → edge.to ≡ t → get_or graph.heads.items t true ≡ false → (t ≡ suc p) × ((from : ℕ) (other : Edge) → EdgeOf (nodes_of graph.nodes.items) from other → other.to ≡ t → (from ≡ p) × (other ≡ edge))
  comes_next p edge one zero e inner = absurd (true≢false (sym of.heads.first ∙ inner))
  comes_next p edge one (suc q) e inner =
      let found = of.heads.inner q inner in
      let mine = found.1.alone p edge one e in
      (ap suc (sym mine.0), λ from other of_it to_it. (let his = found.1.alone from other of_it to_it in (his.0 ∙ sym mine.0, his.1 ∙ sym mine.1)))

  goes_alone : (p : ℕ) (node : Node) → slice_get (nodes_of graph.nodes.items) p ≡ Some node → GoesOnAlone graph.heads.items node
  goes_alone p node here k j one other is_one is_other inner_one inner_other =
      let mine = comes_next p one (record { node = node; place = k; there = here; is = is_one }) one.to refl inner_one in
      let his = comes_next p other (record { node = node; place = j; there = here; is = is_other }) other.to refl inner_other in
      sym (mine.1 p other (record { node = node; place = j; there = here; is = is_other }) (his.0 ∙ sym mine.0)).1

  module _ (m all : Family) (c : Covers r graphs m all) where
    pub ready : Ready graph g m
    ready =
        let shape = c.searching.shaped.each g f there in
        let lt = slice_get_within r.functions g f there in
        let few = owned.few in
        let long = c.long g in
        let wide : (p : ℕ) → p < length (get_or m.points g []) → get_or graph.heads.items p true ≡ true → (known_at m g p).variables ≡ suc graph.result =
        (λ p below head. ap (λ (k : Known). k.variables) (sym (c.here g p graph at head)) ∙ shape.before p no_set (omega (arith, below, long)) ∙ ap suc (sym result_is)) in
        record {
          points = (let q = c.searching.shaped.points in let e = c.points in omega (arith, q, lt, e));
          entries = (let q = c.searching.shaped.entries in let e = ap length c.entries in omega (arith, q, lt, e));
          exits = (let q = c.searching.shaped.exits in let e = ap length c.exits in omega (arith, q, lt, e));
          long = long ∙ shape.points ∙ sym count_is;
          some = (let q = shape.points in omega (arith, q, long));
          heads = of.heads;
          variables = wide;
          entry = ap (λ es. (get_or es g no_set).variables) (sym c.entries) ∙ shape.entry ∙ sym of.hidden;
          exit = ap (λ es. (get_or es g no_set).variables) (sym c.exits) ∙ shape.exit ∙ ap suc (sym of.hidden);
          hidden = (let h = of.hidden in let q = result_is in let o = owned.hidden in omega (arith, h, q, o));
          few = (let q = result_is in omega (arith, q, few));
          may = λ p node here k edge is_edge. (
              let one : EdgeOf (nodes_of graph.nodes.items) p edge = record { node = node; place = k; there = here; is = is_edge } in
              let to : edge.to < length (get_or m.points g []) = (let l = leads_within p edge one in let q = count_is in let s = shape.points in omega (arith, l, q, s, long)) in
              record {
                call = subst (λ xs. CallFits xs edge.effect) c.exits (call_fits_by all.exits edge.effect (λ x h arguments e. (
                    let call : CallOf r h arguments = calls_fit r is g f there p edge x h arguments (edge_there p edge one) e in
                    let within = slice_get_within r.functions h call.routine call.there in
                    let exit = (c.searching.shaped.each h call.routine call.there).exit in
                    let places = places_count arguments x in
                    let each = call.each in
                    let count = c.searching.shaped.exits in
                    (omega (arith, within, count), omega (arith, exit, places, each)))));
                own = subst (λ n. EffectBelow n edge.effect) (sym result_is) (owned.own p edge (edge_there p edge one));
                there = to;
                within = (let l = leads_within p edge one in let q = of.heads.long in let w = length-map graph.nodes.items node_of in omega (arith, l, q, w));
                variables = wide edge.to to;
              });
          alone = goes_alone;
          calls = λ p node here k edge is_edge x h arguments e. (
              let one : NodeEdge f p edge = record { node = node; place = k; there = node_there p node here; is = is_edge } in
              let call : CallOf r h arguments = calls_fit r is g f there p edge x h arguments one e in
              let within = slice_get_within r.functions h call.routine call.there in
              let count = c.searching.shaped.entries in
              let same = ap length c.entries in
              let each = call.each in
              let called_own : Owned r (temporaries_of r) h call.routine = functions_own r is h call.routine call.there in
              let hidden = called_own.hidden in
              let narrow = called_own.few in
              record {
                there = omega (arith, within, count, same);
                places = ap (λ es. (get_or es h no_set).variables) (sym c.entries) ∙ (c.searching.shaped.each h call.routine call.there).entry ∙ sym each;
                few = omega (arith, each, hidden, narrow);
                own = each_below (suc graph.result) arguments (wider graph.result arguments (subst (λ n. all_below n arguments) (sym result_is) (own_arguments p edge x h arguments one e)));
              });
          returns = λ p node here x gives. (let l = returns_fit r is g f there (temporaries_of r g) p node x (node_there p node here) gives in let q = result_is in omega (arith, l, q));
        }

    -- where calls give
    pub called_on : (p : ℕ) (node : Node) → slice_get (nodes_of graph.nodes.items) p ≡ Some node → (m1 : Family) (lost : Bool) → CalledFrom node (known_at all g p) m m1 lost → Covers r graphs m1 (with_entries all m1.entries)
    called_on p node here m1 lost l = record {
      searching =
          call_step r is g f there all m1.entries lost c.searching (NodeGives node (known_at all g p)) (λ h fact every. every p node (slice_get_within (routine_nodes f) p node (node_there p node here)) (node_there p node here))
          (subst (λ es. Loses lost es m1.entries (NodeGives node (known_at all g p))) (sym c.entries) l.loses);
      entries = refl;
      exits = c.exits ∙ sym l.exits;
      points = ap length l.points ∙ c.points;
      long = λ k. ap (λ ps. length (get_or ps k [])) l.points ∙ c.long k;
      here = λ k q one th head. c.here k q one th head ∙ ap (λ ps. get_or (get_or ps k []) q no_set) (sym l.points);
    }

    -- where returns give
    pub left_on : (p : ℕ) (node : Node) → slice_get (nodes_of graph.nodes.items) p ≡ Some node → (m1 : Family) (lost : Bool) → LeftFrom node (known_at all g p) graph.copies graph.result g m m1 lost → Covers r graphs m1 (with_exits all m1.exits)
    left_on p node here m1 lost l = record {
      searching =
          leave_step r is g f there all m1.exits lost c.searching (λ h fact. h ≡ g → NodeReturns node (known_at all g p) (copies f) (spare f (temporaries_of r g)) fact)
          (λ h fact every e. every e p node (slice_get_within (routine_nodes f) p node (node_there p node here)) (node_there p node here))
          (subst (λ n. Loses lost all.exits m1.exits (λ h fact. h ≡ g → NodeReturns node (known_at all g p) (copies f) n fact)) result_is
          (subst (λ n. Loses lost all.exits m1.exits (λ h fact. h ≡ g → NodeReturns node (known_at all g p) n graph.result fact)) of.hidden
          (subst (λ es. Loses lost es m1.exits (λ h fact. h ≡ g → NodeReturns node (known_at all g p) graph.copies graph.result fact)) (sym c.exits) l.loses)));
      entries = c.entries ∙ sym l.entries;
      exits = refl;
      points = ap length l.points ∙ c.points;
      long = λ k. ap (λ ps. length (get_or ps k [])) l.points ∙ c.long k;
      here = λ k q one th head. c.here k q one th head ∙ ap (λ ps. get_or (get_or ps k []) q no_set) (sym l.points);
    }

    own_place : g < length all.points
    own_place = (let q = c.searching.shaped.points in let lt = slice_get_within r.functions g f there in omega (arith, q, lt))

    pub kept_row : (m1 : Family) (lost : Bool) (stays : ℕ → Fact → Type 0) (l : RowLost g m m1 lost stays) → get_or m1.points g [] ≡ l.row
    kept_row m1 lost stays l = ap (λ ps. get_or ps g []) l.points ∙ get_or-set_same m.points g l.row [] (let q = own_place in let e = c.points in omega (arith, q, e))

    -- where sets of its points are others
    module _ (m1 : Family) (lost : Bool) (stays : ℕ → Fact → Type 0) (l : RowLost g m m1 lost stays) (others : List Known) where
      abbrev pub new_row : List Known
      new_row = merged graph.heads.items l.row others

      abbrev pub new_all : Family
      new_all = with_points all (slice_set all.points g new_row)

      pub new_row_is : get_or new_all.points g [] ≡ new_row
      new_row_is = get_or-set_same all.points g new_row [] own_place

      pub row_long : length l.row ≡ length (routine_nodes f)
      row_long = l.loses.long ∙ c.long g ∙ (c.searching.shaped.each g f there).points

      pub row_on : ((p : ℕ) → p < length (routine_nodes f) → Stands r g f p (get_or new_row p no_set)) → Covers r graphs m1 new_all
      row_on each = record {
        searching = row_step r is g f there all new_all.points c.searching (length-set all.points g new_row) (λ k apart. get_or-set_other all.points g k new_row [] apart)
            (ap length new_row_is ∙ merged_long 0 graph.heads.items l.row others ∙ row_long) (λ p lt. subst (λ ks. Stands r g f p (get_or ks p no_set)) (sym new_row_is) (each p lt));
        entries = c.entries ∙ sym l.entries;
        exits = c.exits ∙ sym l.exits;
        points = ap length l.points ∙ length-set m.points g l.row ∙ c.points ∙ sym (length-set all.points g new_row);
        long = pick (λ k. length (get_or m1.points k []) ≡ length (get_or new_all.points k [])) g (ap length (kept_row m1 lost stays l) ∙ sym (merged_long 0 graph.heads.items l.row others) ∙ sym (ap length new_row_is))
            (λ k apart. ap length (ap (λ ps. get_or ps k []) l.points ∙ get_or-set_other m.points g k l.row [] apart) ∙ c.long k ∙ sym (ap length (get_or-set_other all.points g k new_row [] apart)));
        here = λ k p. pick (λ k. (one : Graph) → slice_get graphs k ≡ Some one → get_or one.heads.items p true ≡ true → known_at new_all k p ≡ known_at m1 k p) g
            (λ one th head. ap (λ ks. get_or ks p no_set) new_row_is ∙ merged_head graph.heads.items l.row others p (subst (λ (x : Graph). get_or x.heads.items p true ≡ true) (same_Some _ _ (sym th ∙ at)) head) ∙ sym (ap (λ ks. get_or ks p no_set) (kept_row m1 lost stays l)))
            (λ k apart one th head. ap (λ ks. get_or ks p no_set) (get_or-set_other all.points g k new_row [] apart) ∙ c.here k p one th head ∙ sym (ap (λ ks. get_or ks p no_set) (ap (λ ps. get_or ps k []) l.points ∙ get_or-set_other m.points g k l.row [] apart))) k;
      }

      -- at a head it stands, where it lost what it may
      pub head_stands : (p : ℕ) → p < length (routine_nodes f) → get_or graph.heads.items p true ≡ true → ((fact : Fact) → names (spare f (temporaries_of r g)) fact ≡ false → Derivable (kept f (temporaries_of r g)) (holds (get_or l.row p no_set)) fact → stays p fact)
          → ((b : Annotation) → Consistent r (temporaries_of r) b → (fact : Fact) → IsTrue ((only_of r b).before g p fact) → stays p fact) → Stands r g f p (get_or new_row p no_set)
      head_stands p lt head again give =
          subst (Stands r g f p) (sym (merged_head graph.heads.items l.row others p head))
          (stands_less r is g f there p (known_at all g p) (get_or l.row p no_set) (stays p) (stands r is g f there all c.searching p lt)
          (l.loses.variables p ∙ ap (λ (k : Known). k.variables) (sym (c.here g p graph at head)))
          (λ fact. subst (λ k. IsTrue (holds (get_or l.row p no_set) fact) ↔ (IsTrue (holds k fact) × stays p fact)) (sym (c.here g p graph at head)) (l.loses.facts p fact)) again give)

    -- facts came in
    abbrev came_stays : ℕ → Fact → Type 0
    came_stays = FollowsEntry graph (get_or m.entries g no_set)

    pub came_on : (m1 : Family) (lost : Bool) (l : CameIn graph g m m1 lost) → Covers r graphs m1 (new_all m1 lost (FollowsEntry graph (get_or m.entries g no_set)) l (get_or all.points g []))
    came_on m1 lost l = row_on m1 lost came_stays l (get_or all.points g []) (λ p lt. elim (cases_Bool (get_or graph.heads.items p true)) [
      | inl head ↦ head_stands m1 lost came_stays l (get_or all.points g []) p lt head (λ fact apart d. again p fact apart d) (λ b one fact has. give p b one fact has)
      | inr inner ↦ subst (Stands r g f p) (sym (merged_inner graph.heads.items l.row (get_or all.points g []) p (let q = row_long m1 lost came_stays l (get_or all.points g []) in omega (arith, lt, q)) inner)) (stands r is g f there all c.searching p lt)
    ])
      where
        again : (p : ℕ) (fact : Fact) → names (spare f (temporaries_of r g)) fact ≡ false → Derivable (kept f (temporaries_of r g)) (holds (get_or l.row p no_set)) fact → came_stays p fact
        again p fact apart d e = (
          follows_cut (λ q k. (((l.loses.facts p q).0 k).1 e).0) (subst (λ n. Derivable (suc n) (holds (get_or l.row p no_set)) fact) (sym result_is) d),
          subst (λ n. names n fact ≡ false) (sym result_is) apart,
        )

        give : (p : ℕ) (b : Annotation) → Consistent r (temporaries_of r) b → (fact : Fact) → IsTrue ((only_of r b).before g p fact) → came_stays p fact
        give p b one fact has e =
            subst (λ es. FollowsEntry graph (get_or es g no_set) 0 fact) c.entries (λ zero_is.
            subst (λ n. Derivable (suc n) (λ q. is_over graph.copies q && holds (get_or all.entries g no_set) q) fact × (names n fact ≡ false)) (sym result_is)
            (subst (λ n. Derivable (kept f (temporaries_of r g)) (λ q. is_over n q && holds (get_or all.entries g no_set) q) fact × (names (spare f (temporaries_of r g)) fact ≡ false)) (sym of.hidden)
            (entered_inside r is g f there all c.searching b one fact (subst (λ i. IsTrue ((only_of r b).before g i fact)) e has)))) refl

    -- the working set was led over the edges of a point
    module _ (p : ℕ) (node : Node) (here : slice_get (nodes_of graph.nodes.items) p ≡ Some node) (m1 : Family) (work after : Known) (lost : Bool) (known : known_at all g p ≡ work) (wide : after.variables ≡ suc graph.result)
        (on : LeadsOn graph.heads.items m.exits graph.result node work after) (l : RowLost g m m1 lost (NodeLeads graph.heads.items m.exits graph.result node work)) where
      abbrev leading : ℕ → Fact → Type 0
      leading = NodeLeads graph.heads.items m.exits graph.result node work

      abbrev pub led_others : List Known
      led_others = slice_set (get_or all.points g []) (suc p) after

      abbrev pub led_all : Family
      led_all = new_all m1 lost leading l led_others

      in_code : p < length (routine_nodes f)
      in_code = slice_get_within (routine_nodes f) p node (node_there p node here)

      standing : Stands r g f p work
      standing = subst (Stands r g f p) known (stands r is g f there all c.searching p in_code)

      down : (effect : Effect) (fact : Fact) → Crossed (set_at all.exits) (spare f (temporaries_of r g)) effect (holds work) fact → Crossed (set_at m.exits) graph.result effect (holds work) fact
      down effect fact h = subst (λ xs. Crossed (set_at xs) graph.result effect (holds work) fact) c.exits (subst (λ n. Crossed (set_at all.exits) n effect (holds work) fact) (sym result_is) h)

      up : (effect : Effect) (fact : Fact) → Crossed (set_at m.exits) graph.result effect (holds work) fact → Crossed (set_at all.exits) (spare f (temporaries_of r g)) effect (holds work) fact
      up effect fact h = subst (λ xs. Crossed (set_at xs) (spare f (temporaries_of r g)) effect (holds work) fact) (sym c.exits) (subst (λ n. Crossed (set_at m.exits) n effect (holds work) fact) result_is h)

      node_edge : (k : ℕ) (edge : Edge) → slice_get node.edges k ≡ Some edge → NodeEdge f p edge
      node_edge k edge is_edge = record { node = node; place = k; there = node_there p node here; is = is_edge }

      -- behind a point that is no head, the edge that leads there
      pub led_edge : (edge : Edge) → EdgeOf (nodes_of graph.nodes.items) p edge → get_or graph.heads.items edge.to true ≡ false → IsLed m.exits graph.result edge work after
      led_edge edge one inner = on one.place edge (ap (λ (n : Node). slice_get n.edges one.place) (sym (same_Some _ _ (sym one.there ∙ here))) ∙ one.is) inner

      next_stands : get_or graph.heads.items (suc p) true ≡ false → Stands r g f (suc p) after
      next_stands inner =
          let found = of.heads.inner p inner in
          let edge = found.0 in
          let comes = found.1 in
          let led = led_edge edge comes.of (ap (λ t. get_or graph.heads.items t true) comes.leads ∙ inner) in
          subst (λ t. Stands r g f t after) comes.leads
          (crossed_stands r is g f there all c.searching p edge (edge_there p edge comes.of) work standing after (wide ∙ ap suc result_is) (λ fact. (λ h. up edge.effect fact ((led fact).0 h), λ h. (led fact).1 (down edge.effect fact h))))

      row_within : (q : ℕ) → q < length (routine_nodes f) → q < length l.row
      row_within q lt = (let k = row_long m1 lost leading l led_others in omega (arith, lt, k))

      pub next_within : get_or graph.heads.items (suc p) true ≡ false → suc p < length (routine_nodes f)
      next_within inner = (let comes = (of.heads.inner p inner).1 in let w = leads_within p (of.heads.inner p inner).0 comes.of in let e = comes.leads in let q = count_is in omega (arith, w, e, q))

      full_long : length (get_or all.points g []) ≡ length (routine_nodes f)
      full_long = (c.searching.shaped.each g f there).points

      pub next_is : get_or graph.heads.items (suc p) true ≡ false → known_at led_all g (suc p) ≡ after
      next_is inner =
          let w = next_within inner in
          let e = full_long in
          ap (λ ks. get_or ks (suc p) no_set) (new_row_is m1 lost leading l led_others) ∙ merged_inner graph.heads.items l.row led_others (suc p) (row_within (suc p) w) inner ∙ get_or-set_same (get_or all.points g []) (suc p) after no_set (omega (arith, w, e))

      inner_stands : (q : ℕ) → q < length (routine_nodes f) → get_or graph.heads.items q true ≡ false → Stands r g f q (get_or led_others q no_set)
      inner_stands q lt = pick (λ q. q < length (routine_nodes f) → get_or graph.heads.items q true ≡ false → Stands r g f q (get_or led_others q no_set)) (suc p)
          (λ lt inner. subst (Stands r g f (suc p)) (sym (get_or-set_same (get_or all.points g []) (suc p) after no_set (let e = full_long in omega (arith, lt, e)))) (next_stands inner))
          (λ q apart lt inner. subst (Stands r g f q) (sym (get_or-set_other (get_or all.points g []) (suc p) q after no_set apart)) (stands r is g f there all c.searching q lt)) q lt

      pub led_on : Covers r graphs m1 led_all
      led_on = row_on m1 lost leading l led_others (λ q lt. elim (cases_Bool (get_or graph.heads.items q true)) [
        | inl head ↦ head_stands m1 lost leading l led_others q lt head
            (λ fact apart d k edge is_edge to at_head. down edge.effect fact (crossed_shut (spare f (temporaries_of r g)) (set_at all.exits) edge.effect (owned.own p edge (node_edge k edge is_edge)) (holds work) (holds (get_or l.row q no_set)) (λ h i. up edge.effect h (((l.loses.facts q h).0 i).1 k edge is_edge to at_head)) fact apart d))
            (λ b one fact has k edge is_edge to at_head. down edge.effect fact (crossed_inside r is g f there all c.searching p edge (node_edge k edge is_edge) work standing b one fact (subst (λ i. IsTrue ((only_of r b).before g i fact)) (sym to) has)))
        | inr inner ↦ subst (Stands r g f q) (sym (merged_inner graph.heads.items l.row led_others q (row_within q lt) inner)) (inner_stands q lt inner)
      ])

      -- other sets stay, where none lost a fact
      pub led_stays : lost ≡ false → (q : ℕ) → (q ≡ suc p → get_or graph.heads.items q true ≡ true) → known_at led_all g q ≡ known_at all g q
      led_stays none q apart = ap (λ ks. get_or ks q no_set) (new_row_is m1 lost leading l led_others) ∙ elim (cases_Bool (get_or graph.heads.items q true)) [
        | inl head ↦ merged_head graph.heads.items l.row led_others q head ∙ ap (λ ks. get_or ks q no_set) (of_false _ _ lost none l.loses.fewer) ∙ sym (c.here g q graph at head)
        | inr inner ↦ elim (side q (length l.row)) [
          | inl lt ↦ merged_inner graph.heads.items l.row led_others q lt inner ∙ get_or-set_other (get_or all.points g []) (suc p) q after no_set (λ e. true≢false (sym (apart e) ∙ inner))
          | inr le ↦ past_end (new_row m1 lost leading l led_others) q (let k = merged_long 0 graph.heads.items l.row led_others in omega (arith, k, le)) ∙ sym (past_end (get_or all.points g []) q (let k = row_long m1 lost leading l led_others in let e = full_long in omega (arith, k, e, le)))
        ]
      ]
