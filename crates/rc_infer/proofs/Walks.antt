-- Walks, one point after another.
use Rattle.std.proofs.Common.{◌≡◌, ℕ, suc, ◌+◌, ◌<◌, ◌≤◌, ◌||◌, Bool, true, false, IsTrue, List, [], length, get_or, Some, refl, sym, ap, ◌∙◌, subst, arith, inl, inr}
use Rattle.std.specs.Prelude.{MatchBool, slice_get, slice_set}
use Rattle.std.specs.List.{sum_by}
use Rattle.std.proofs.lemmas.Bool.{cases_Bool, true≢false}
use Rattle.std.proofs.lemmas.List.{get_or-set_other}
use Rattle.std.proofs.lemmas.List.Sums.{sum_by-set}
use Rattle.std.proofs.lemmas.Option.{same_Some}
use Rattle.rc_facts.specs.declared.fact.Fact.{Fact}
use Rattle.rc_facts.specs.Facts.{Known, holds}
use Rattle.rc_rlang.specs.RegionCode.{Rlang}
use Rattle.rc_rlang.specs.IsRlang.{IsRlang}
use Rattle.rc_rlang.specs.RegionFlow.{Edge, Node}
use Rattle.rc_annotations.specs.Heights.{temporaries_of}
use Rattle.rc_facts.specs.Flow.{IsClosed, facts_in, no_set, set_at}
use Rattle.rc_graph.specs.declared.graph.Graph.{Graph}
use Rattle.rc_graph.specs.Heads.{EdgeOf}
use Rattle.rc_graph.specs.Nodes.{AreGraphs, nodes_of}
use Rattle.rc_edges.specs.Boundaries.{NodeGives, NodeReturns}
use Rattle.rc_edges.specs.Edges.{Crossed, kept, spare}
use Rattle.rc_edges.specs.Families.{Family}
use Rattle.rc_edges.specs.Searching.{with_entries, with_exits}
use Rattle.rc_passing.specs.Leading.{LeadsOn, NodeLeads}
use Rattle.rc_infer.specs.Covering.{Covers, Turning, facts_of, known_at}
use Rattle.rc_infer.specs.Steps.{CalledFrom, CameIn, FollowsEntry, LeftFrom, RowLost}
use Rattle.rc_infer.specs.Walking.{Begun, DoneAt, FunctionDone, Rounded, Stepped, Swept, Walked, Went}
use Rattle.rc_infer.proofs.Covers.{called_on, came_on, comes_next, kept_row, led_all, led_edge, led_on, led_stays, left_on, new_all, next_is, of_false, ready, count_is, result_is, routine}
use Rattle.rc_infer.proofs.Lists.{set_own}
use Rattle.rc_infer.proofs.Places.{order}

family_same : (m m1 : Family) → m1.points ≡ m.points → m1.entries ≡ m.entries → m1.exits ≡ m.exits → m1 ≡ m
family_same m m1 p e x =
    ap (λ z. record { points = z; entries = m1.entries; exits = m1.exits }) p ∙ ap (λ z. record { points = m.points; entries = z; exits = m1.exits }) e ∙ ap (λ z. record { points = m.points; entries = m.entries; exits = z }) x

fewer : (lost : Bool) (old new : List Known) → MatchBool lost (facts_in new < facts_in old) (new ≡ old) → facts_in new ≤ facts_in old
fewer true old new l = omega (arith, l)
fewer false old new e = let q = ap facts_in e in omega (arith, q)

neither : (a b : Bool) → (a || b) ≡ false → (a ≡ false) × (b ≡ false)
neither true b e = absurd (true≢false e)
neither false b e = (refl, e)

-- what a family lost, where sets of one function did
module _ (g : ℕ) (m m1 : Family) (lost : Bool) (stays : ℕ → Fact → Type 0) (l : RowLost g m m1 lost stays) (lt : g < length m.points) where
  rows_sum : sum_by facts_in m1.points + facts_in (get_or m.points g []) ≡ sum_by facts_in m.points + facts_in l.row
  rows_sum = ap (λ ps. sum_by facts_in ps + facts_in (get_or m.points g [])) l.points ∙ sum_by-set facts_in m.points g l.row [] lt

  pub rows_fewer : sum_by facts_in m1.points ≤ sum_by facts_in m.points
  rows_fewer = (let s = rows_sum in let q = fewer lost (get_or m.points g []) l.row l.loses.fewer in omega (arith, s, q))

  pub rows_same : lost ≡ false → m1.points ≡ m.points
  rows_same e = l.points ∙ ap (slice_set m.points g) (of_false _ _ lost e l.loses.fewer) ∙ set_own m.points g []

  pub row_shrinks : MatchBool lost (facts_of m1 < facts_of m) (m1 ≡ m)
  row_shrinks = by lost refl l.loses.fewer
    where
      by : (b : Bool) → lost ≡ b → MatchBool b (facts_in l.row < facts_in (get_or m.points g [])) (l.row ≡ get_or m.points g []) → MatchBool b (facts_of m1 < facts_of m) (m1 ≡ m)
      by true e less = (let s = rows_sum in let q = ap facts_in l.entries in let w = ap facts_in l.exits in omega (arith, s, q, w, less))
      by false e same = family_same m m1 (rows_same e) l.entries l.exits

-- one loss after another
pub shrinks_both : (m m1 m2 : Family) (a b : Bool) → MatchBool a (facts_of m1 < facts_of m) (m1 ≡ m) → MatchBool b (facts_of m2 < facts_of m1) (m2 ≡ m1) → MatchBool (a || b) (facts_of m2 < facts_of m) (m2 ≡ m)
shrinks_both m m1 m2 true true p q = omega (arith, p, q)
shrinks_both m m1 m2 true false p q = (let e = ap facts_of q in omega (arith, p, e))
shrinks_both m m1 m2 false true p q = (let e = ap facts_of p in omega (arith, q, e))
shrinks_both m m1 m2 false false p q = q ∙ p

pub shrinks_less : (m m1 : Family) (a : Bool) → MatchBool a (facts_of m1 < facts_of m) (m1 ≡ m) → facts_of m1 ≤ facts_of m
shrinks_less m m1 true p = omega (arith, p)
shrinks_less m m1 false p = (let e = ap facts_of p in omega (arith, e))

pub called_shrinks : (node : Node) (known : Known) (m m1 : Family) (lost : Bool) → CalledFrom node known m m1 lost → MatchBool lost (facts_of m1 < facts_of m) (m1 ≡ m)
called_shrinks node known m m1 lost l = by lost l.loses.fewer
  where
    by : (b : Bool) → MatchBool b (facts_in m1.entries < facts_in m.entries) (m1.entries ≡ m.entries) → MatchBool b (facts_of m1 < facts_of m) (m1 ≡ m)
    by true less = (let q = ap (sum_by facts_in) l.points in let w = ap facts_in l.exits in omega (arith, q, w, less))
    by false same = family_same m m1 l.points same l.exits

pub left_shrinks : (node : Node) (known : Known) (copies result g : ℕ) (m m1 : Family) (lost : Bool) → LeftFrom node known copies result g m m1 lost → MatchBool lost (facts_of m1 < facts_of m) (m1 ≡ m)
left_shrinks node known copies result g m m1 lost l = by lost l.loses.fewer
  where
    by : (b : Bool) → MatchBool b (facts_in m1.exits < facts_in m.exits) (m1.exits ≡ m.exits) → MatchBool b (facts_of m1 < facts_of m) (m1 ≡ m)
    by true less = (let q = ap (sum_by facts_in) l.points in let w = ap facts_in l.entries in omega (arith, q, w, less))
    by false same = family_same m m1 l.points l.entries same

module _ (r : Rlang) (graphs : List Graph) (is : IsRlang r) (own : AreGraphs r (length r.functions) graphs) (g : ℕ) (graph : Graph) (at : slice_get graphs g ≡ Some graph) where
  own_place : (m all : Family) → Covers r graphs m all → g < length m.points
  own_place m all c = (ready r graphs is own g graph at m all c).points

  -- a point that is no head is the next one
  next_only : (p q : ℕ) (edge : Edge) → EdgeOf (nodes_of graph.nodes.items) p edge → edge.to ≡ suc q → get_or graph.heads.items edge.to true ≡ false → p ≡ q
  next_only p q edge one e inner = (let n = (comes_next r graphs is own g graph at p edge one edge.to refl inner).0 in omega (arith, n, e))

  -- ---- the steps at a point

  -- the working set is what is known there
  pub restarted : (p : ℕ) (m all : Family) (old new : Known) → Covers r graphs m all → (get_or graph.heads.items p true ≡ true → new ≡ known_at m g p) → (get_or graph.heads.items p true ≡ false → new ≡ old) → (get_or graph.heads.items p true ≡ false → known_at all g p ≡ old) → known_at all g p ≡ new
  restarted p m all old new c head inner known = elim (cases_Bool (get_or graph.heads.items p true)) [
    | inl is_head ↦ c.here g p graph at is_head ∙ sym (head is_head)
    | inr is_inner ↦ known is_inner ∙ sym (inner is_inner)
  ]

  pub closed_there : (p : ℕ) (m all : Family) (work : Known) → p < length graph.nodes.items → Covers r graphs m all → known_at all g p ≡ work → IsClosed (suc graph.result) graph.result (holds work)
  closed_there p m all work lt c known =
      let there = routine r graphs is own g graph at in
      subst (λ n. IsClosed (suc n) n (holds work)) (sym (result_is r graphs is own g graph at))
      (subst (λ (k : Known). IsClosed (kept there.0 (temporaries_of r g)) (spare there.0 (temporaries_of r g)) (holds k)) known
      (c.searching.shut g there.0 there.1 p (let q = (c.searching.shaped.each g there.0 there.1).points in let n = count_is r graphs is own g graph at in omega (arith, lt, q, n))))

  pub call_covers : (p : ℕ) (node : Node) → slice_get (nodes_of graph.nodes.items) p ≡ Some node → (m m1 all : Family) (work : Known) (lost : Bool) → Covers r graphs m all → known_at all g p ≡ work → CalledFrom node work m m1 lost → Covers r graphs m1 (with_entries all m1.entries)
  call_covers p node here m m1 all work lost c known called = called_on r graphs is own g graph at m all c p node here m1 lost (subst (λ k. CalledFrom node k m m1 lost) (sym known) called)

  pub leave_covers : (p : ℕ) (node : Node) → slice_get (nodes_of graph.nodes.items) p ≡ Some node → (m m1 all : Family) (work : Known) (lost : Bool) → Covers r graphs m all → known_at all g p ≡ work → LeftFrom node work graph.copies graph.result g m m1 lost → Covers r graphs m1 (with_exits all m1.exits)
  leave_covers p node here m m1 all work lost c known left = left_on r graphs is own g graph at m all c p node here m1 lost (subst (λ k. LeftFrom node k graph.copies graph.result g m m1 lost) (sym known) left)

  module _ (p : ℕ) (node : Node) (here : slice_get (nodes_of graph.nodes.items) p ≡ Some node) (m m1 m2 m3 all : Family) (work after : Known) (l1 l2 l3 : Bool) (c : Covers r graphs m all) (known : known_at all g p ≡ work)
      (called : CalledFrom node work m m1 l1) (left : LeftFrom node work graph.copies graph.result g m1 m2 l2) (on : LeadsOn graph.heads.items m2.exits graph.result node work after) (wide : after.variables ≡ suc graph.result)
      (led : RowLost g m2 m3 l3 (NodeLeads graph.heads.items m2.exits graph.result node work)) where
    abbrev all1 : Family
    all1 = with_entries all m1.entries

    abbrev all2 : Family
    all2 = with_exits all1 m2.exits

    covers1 : Covers r graphs m1 all1
    covers1 = called_on r graphs is own g graph at m all c p node here m1 l1 (subst (λ k. CalledFrom node k m m1 l1) (sym known) called)

    covers2 : Covers r graphs m2 all2
    covers2 = left_on r graphs is own g graph at m1 all1 covers1 p node here m2 l2 (subst (λ k. LeftFrom node k graph.copies graph.result g m1 m2 l2) (sym known) left)

    abbrev all3 : Family
    all3 = led_all r graphs is own g graph at m2 all2 covers2 p node here m3 work after l3 known wide on led

    covers3 : Covers r graphs m3 all3
    covers3 = led_on r graphs is own g graph at m2 all2 covers2 p node here m3 work after l3 known wide on led

    stays3 : l3 ≡ false → (q : ℕ) → (q ≡ suc p → get_or graph.heads.items q true ≡ true) → known_at all3 g q ≡ known_at all g q
    stays3 none = led_stays r graphs is own g graph at m2 all2 covers2 p node here m3 work after l3 known wide on led none

    same_node : (other : Node) → slice_get (nodes_of graph.nodes.items) p ≡ Some other → node ≡ other
    same_node other there = same_Some _ _ (sym here ∙ there)

    done3 : l3 ≡ false → DoneAt graph g all3 p
    done3 none = record {
      along = λ edge fact one has. subst (λ k. Crossed (set_at m2.exits) graph.result edge.effect (holds k) fact) (sym before) (elim (cases_Bool (get_or graph.heads.items edge.to true)) [
        | inl head ↦ ((led.loses.facts edge.to fact).0 (subst (λ k. IsTrue (holds k fact)) (at_head edge.to head) has)).1 one.place edge (node_edge edge one) refl head
        | inr inner ↦ ((led_edge r graphs is own g graph at m2 all2 covers2 p node here m3 work after l3 known wide on led edge one inner) fact).0 (subst (λ k. IsTrue (holds k fact)) (at_next edge one inner) has)
      ]);
      back = λ edge fact one inner d. subst (λ k. IsTrue (holds k fact)) (sym (at_next edge one inner)) (((led_edge r graphs is own g graph at m2 all2 covers2 p node here m3 work after l3 known wide on led edge one inner) fact).1 (subst (λ k. Crossed (set_at m2.exits) graph.result edge.effect (holds k) fact) before d));
      calls = λ other h fact there has. subst (λ k. NodeGives other k h fact) (sym before) (subst (λ n. NodeGives n work h fact) (same_node other there) ((called.loses.facts h fact).0 has).1);
      returns = λ other fact there has. subst (λ k. NodeReturns other k graph.copies graph.result fact) (sym before) (subst (λ n. NodeReturns n work graph.copies graph.result fact) (same_node other there) (((left.loses.facts g fact).0 has).1 refl));
    }
      where
        before : known_at all3 g p ≡ work
        before = stays3 none p (λ e. absurd (let q = e in omega (arith, q))) ∙ known

        node_edge : (edge : Edge) (one : EdgeOf (nodes_of graph.nodes.items) p edge) → slice_get node.edges one.place ≡ Some edge
        node_edge edge one = ap (λ (n : Node). slice_get n.edges one.place) (same_node one.node one.there) ∙ one.is

        at_head : (q : ℕ) → get_or graph.heads.items q true ≡ true → known_at all3 g q ≡ get_or led.row q no_set
        at_head q head = covers3.here g q graph at head ∙ ap (λ ks. get_or ks q no_set) (kept_row r graphs is own g graph at m2 all2 covers2 m3 l3 (NodeLeads graph.heads.items m2.exits graph.result node work) led)

        at_next : (edge : Edge) → EdgeOf (nodes_of graph.nodes.items) p edge → get_or graph.heads.items edge.to true ≡ false → known_at all3 g edge.to ≡ after
        at_next edge one inner =
            let e = (comes_next r graphs is own g graph at p edge one edge.to refl inner).0 in
            ap (λ t. known_at all3 g t) e ∙ next_is r graphs is own g graph at m2 all2 covers2 p node here m3 work after l3 known wide on led (sym (ap (λ t. get_or graph.heads.items t true) e) ∙ inner)

    pub stepped : Stepped r graphs graph g p m m3 all after (l1 || (l2 || l3))
    stepped = record {
      all1 = all3;
      reached = record { covers = covers3; inner = next_is r graphs is own g graph at m2 all2 covers2 p node here m3 work after l3 known wide on led };
      others = λ k apart. get_or-set_other all2.points g k _ [] apart;
      shrinks = shrinks_both m m1 m3 l1 (l2 || l3) (called_shrinks node work m m1 l1 called) (shrinks_both m1 m2 m3 l2 l3 (left_shrinks node work graph.copies graph.result g m1 m2 l2 left) (row_shrinks g m2 m3 l3 (NodeLeads graph.heads.items m2.exits graph.result node work) led (own_place m2 all2 covers2)));
      stays = λ none. stays3 (neither l2 l3 (neither l1 (l2 || l3) none).1).1;
      done = λ none. done3 (neither l2 l3 (neither l1 (l2 || l3) none).1).1;
    }

  -- ---- from point to point

  -- what was done stays so, where sets stay
  done_stays : (all all1 : Family) (p q : ℕ) → (q ≡ p → ⊥) → (q ≡ suc p → ⊥) → ((k : ℕ) → (k ≡ suc p → get_or graph.heads.items k true ≡ true) → known_at all1 g k ≡ known_at all g k) → all1.entries ≡ all.entries → all1.exits ≡ all.exits → DoneAt graph g all q → DoneAt graph g all1 q
  done_stays all all1 p q apart far stays e x d = record {
    along = λ edge fact one has. subst (λ xs. Crossed (set_at xs) graph.result edge.effect (holds (known_at all1 g q)) fact) (sym x) (subst (λ k. Crossed (set_at all.exits) graph.result edge.effect (holds k) fact) (sym before) (d.along edge fact one (subst (λ k. IsTrue (holds k fact)) (behind edge one) has)));
    back = λ edge fact one inner h. subst (λ k. IsTrue (holds k fact)) (sym (behind edge one)) (d.back edge fact one inner (subst (λ k. Crossed (set_at all.exits) graph.result edge.effect (holds k) fact) before (subst (λ xs. Crossed (set_at xs) graph.result edge.effect (holds (known_at all1 g q)) fact) x h)));
    calls = λ node h fact there has. subst (λ k. NodeGives node k h fact) (sym before) (d.calls node h fact there (subst (λ es. IsTrue (set_at es h fact)) e has));
    returns = λ node fact there has. subst (λ k. NodeReturns node k graph.copies graph.result fact) (sym before) (d.returns node fact there (subst (λ xs. IsTrue (set_at xs g fact)) x has));
  }
    where
      before : known_at all1 g q ≡ known_at all g q
      before = stays q (λ same. absurd (far same))

      behind : (edge : Edge) → EdgeOf (nodes_of graph.nodes.items) q edge → known_at all1 g edge.to ≡ known_at all g edge.to
      behind edge one = stays edge.to (λ same. elim (cases_Bool (get_or graph.heads.items edge.to true)) [ inl head ↦ head | inr inner ↦ absurd (apart (next_only q p edge one same inner)) ])

  pub went_none : (from : ℕ) → get_or graph.heads.items from true ≡ true → (m all : Family) (work : Known) → Covers r graphs m all → Went r graphs graph g from from m m all work false
  went_none from head m all work c = record {
    all1 = all;
    reached = record { covers = c; inner = λ inner. absurd (true≢false (sym head ∙ inner)) };
    others = λ k apart. refl;
    shrinks = refl;
    head = λ none. refl;
    done = λ none q over below. absurd (omega (arith, over, below));
  }

  pub went_more : (from p : ℕ) → from ≤ p → (m m1 m2 all : Family) (work after : Known) (lost more : Bool) (w : Went r graphs graph g from p m m1 all work lost) → Stepped r graphs graph g p m1 m2 w.all1 after more → Went r graphs graph g from (suc p) m m2 all after (lost || more)
  went_more from p le m m1 m2 all work after lost more w s = record {
    all1 = s.all1;
    reached = s.reached;
    others = λ k apart. s.others k apart ∙ w.others k apart;
    shrinks = shrinks_both m m1 m2 lost more w.shrinks s.shrinks;
    head = λ none. s.stays (neither lost more none).1 from (λ e. absurd (omega (arith, e, le))) ∙ w.head (neither lost more none).0;
    done = λ none q over below. (
        let both = neither lost more none in
        let same : m2 ≡ m1 = of_false _ _ more both.1 s.shrinks in
        let e : s.all1.entries ≡ w.all1.entries = s.reached.covers.entries ∙ ap (λ (m : Family). m.entries) same ∙ sym w.reached.covers.entries in
        let x : s.all1.exits ≡ w.all1.exits = s.reached.covers.exits ∙ ap (λ (m : Family). m.exits) same ∙ sym w.reached.covers.exits in
        elim (order q p) [
          | inl lt ↦ done_stays w.all1 s.all1 p q (λ z. absurd (omega (arith, z, lt))) (λ z. absurd (omega (arith, z, lt))) (s.stays both.1) e x (w.done both.0 q over lt)
          | inr (inl z) ↦ subst (DoneAt graph g s.all1) (sym z) (s.done both.1)
          | inr (inr gt) ↦ absurd (omega (arith, gt, below))
        ]);
  }

  -- ---- where a walk begins
  pub begun_not : (from : ℕ) → (from ≡ 0 → ⊥) → (m all : Family) → Covers r graphs m all → Begun r graphs graph g from m m all false
  begun_not from apart m all c = record { all1 = all; covers = c; others = λ k far. refl; shrinks = refl; entry = λ e. absurd (apart e) }

  pub begun_in : (m m1 all : Family) (lost : Bool) → Covers r graphs m all → CameIn graph g m m1 lost → (from : ℕ) → Begun r graphs graph g from m m1 all lost
  begun_in m m1 all lost c l from = record {
    all1 = new_all r graphs is own g graph at m all c m1 lost (FollowsEntry graph (get_or m.entries g no_set)) l (get_or all.points g []);
    covers = came_on r graphs is own g graph at m all c m1 lost l;
    others = λ k apart. get_or-set_other all.points g k _ [] apart;
    shrinks = row_shrinks g m m1 lost (FollowsEntry graph (get_or m.entries g no_set)) l (own_place m all c);
    entry = λ e fact has. subst (λ es. FollowsEntry graph (get_or es g no_set) 0 fact) (sym l.entries) ((l.loses.facts 0 fact).0 (subst (λ k. IsTrue (holds k fact)) first has)).1;
  }
    where
      first : known_at (new_all r graphs is own g graph at m all c m1 lost (FollowsEntry graph (get_or m.entries g no_set)) l (get_or all.points g [])) g 0 ≡ get_or l.row 0 no_set
      first = (came_on r graphs is own g graph at m all c m1 lost l).here g 0 graph at (ready r graphs is own g graph at m all c).heads.first ∙ ap (λ ks. get_or ks 0 no_set) (kept_row r graphs is own g graph at m all c m1 lost (FollowsEntry graph (get_or m.entries g no_set)) l)

  pub walked : (from to : ℕ) (m m1 m2 all : Family) (after : Known) (l1 l2 : Bool) (b : Begun r graphs graph g from m m1 all l1) → Went r graphs graph g from to m1 m2 b.all1 after l2 → Walked r graphs graph g from to m m2 all (l1 || l2)
  walked from to m m1 m2 all after l1 l2 b w = record {
    all1 = w.all1;
    covers = w.reached.covers;
    others = λ k apart. w.others k apart ∙ b.others k apart;
    shrinks = shrinks_both m m1 m2 l1 l2 b.shrinks w.shrinks;
    entry = λ none e fact has. (
        let last = (neither l1 l2 none).1 in
        let same : m2 ≡ m1 = of_false _ _ l2 last w.shrinks in
        subst (λ (m : Family). FollowsEntry graph (get_or m.entries g no_set) 0 fact) (sym same) (b.entry e fact (subst (λ k. IsTrue (holds k fact)) (subst (λ i. known_at w.all1 g i ≡ known_at b.all1 g i) e (w.head last)) has)));
    done = λ none. w.done (neither l1 l2 none).1;
  }

  -- ---- rounds
  pub rounded_more : (m m1 m2 : Family) (lost more : Bool) (d : Rounded r graphs g m m1 lost) → Walked r graphs graph g 0 (length graph.nodes.items) m1 m2 d.all1 more → Rounded r graphs (g + 1) m m2 (lost || more)
  rounded_more m m1 m2 lost more d w = record {
    all1 = w.all1;
    covers = w.covers;
    shrinks = shrinks_both m m1 m2 lost more d.shrinks w.shrinks;
    done = λ none k one lt th. (
        let both = neither lost more none in
        let same : m2 ≡ m1 = of_false _ _ more both.1 w.shrinks in
        let e : w.all1.entries ≡ d.all1.entries = w.covers.entries ∙ ap (λ (m : Family). m.entries) same ∙ sym d.covers.entries in
        let x : w.all1.exits ≡ d.all1.exits = w.covers.exits ∙ ap (λ (m : Family). m.exits) same ∙ sym d.covers.exits in
        elim (order k g) [
          | inl below ↦
              subst (λ row. FunctionDone one k row w.all1.entries w.all1.exits) (sym (w.others k (λ z. absurd (omega (arith, z, below)))))
              (subst (λ es. FunctionDone one k (get_or d.all1.points k []) es w.all1.exits) (sym e) (subst (λ xs. FunctionDone one k (get_or d.all1.points k []) d.all1.entries xs) (sym x) (d.done both.0 k one below th)))
          | inr (inl z) ↦
              subst (λ i. FunctionDone one i (get_or w.all1.points i []) w.all1.entries w.all1.exits) (sym z)
              (subst (λ (o : Graph). FunctionDone o g (get_or w.all1.points g []) w.all1.entries w.all1.exits) (same_Some _ _ (sym at ∙ sym (ap (slice_get graphs) z) ∙ th))
              (record {
                entry = λ fact has. subst (λ es. FollowsEntry graph (get_or es g no_set) 0 fact) (sym w.covers.entries) (w.entry both.1 refl fact has);
                done = λ q inside. w.done both.1 q (omega arith) inside;
              }))
          | inr (inr over) ↦ absurd (omega (arith, over, lt))
        ]);
  }

  -- ---- sweeps
  pub swept_walk : (from to : ℕ) (m m1 all : Family) (lost : Bool) → Walked r graphs graph g from to m m1 all lost → Swept r graphs m m1
  swept_walk from to m m1 all lost w = record { all1 = w.all1; covers = w.covers; fewer = shrinks_less m m1 lost w.shrinks }

pub rounded_none : (r : Rlang) (graphs : List Graph) (m all : Family) → Covers r graphs m all → Rounded r graphs 0 m m false
rounded_none r graphs m all c = record { all1 = all; covers = c; shrinks = refl; done = λ none g one lt th. absurd (omega (arith, lt)) }

pub swept_none : (r : Rlang) (graphs : List Graph) (m all : Family) → Covers r graphs m all → Swept r graphs m m
swept_none r graphs m all c = record { all1 = all; covers = c; fewer = omega arith }

pub swept_both : (r : Rlang) (graphs : List Graph) (m m1 m2 : Family) → Swept r graphs m m1 → Swept r graphs m1 m2 → Swept r graphs m m2
swept_both r graphs m m1 m2 a b = record { all1 = b.all1; covers = b.covers; fewer = (let q = a.fewer in let w = b.fewer in omega (arith, q, w)) }

pub turning_by : (r : Rlang) (graphs : List Graph) (m m1 : Family) → Turning r graphs m → (all : Family) → Covers r graphs m1 all → Turning r graphs m1
turning_by r graphs m m1 t all c = record { code = t.code; own = t.own; all = all; covers = c }
