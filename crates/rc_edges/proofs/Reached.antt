-- What is reached is consistent, and has all that a consistent annotation has.
use Rattle.std.proofs.Common.{◌≡◌, ◌<◌, ◌≤◌, inl, inr, ◌↔◌, ℕ, zero, suc, Bool, true, false, ◌&&◌, ◌||◌, not, nat_eq, List, [], ◌∷◌, length, get_or, Option, Some, None, refl, sym, ap, ◌∙◌, subst, arith}
use Rattle.std.specs.Prelude.{is_some, nat_lt, slice_get}
use Rattle.std.specs.List.{list_any}
use Rattle.std.proofs.lemmas.Bool.{and_parts, and_from, or_cases, eqb-true, eq-eqb}
use Rattle.std.proofs.lemmas.Option.{slice_get_within}
use Rattle.rc_facts.specs.declared.fact.Fact.{Fact}
use Rattle.rc_facts.specs.declared.fact.Fact.TheVariants.{In, Up, Trad, NonNull}
use Rattle.rc_facts.specs.Derivable.{Derivable}
use Rattle.rc_facts.proofs.Sets.{same_fact-true}
use Rattle.rc_facts.specs.Facts.{is_over, same_fact, names, with_replaced}
use Rattle.rc_rlang.specs.RegionCode.{Routine, Rlang}
use Rattle.rc_rlang.specs.IsRlang.{IsRlang}
use Rattle.rc_rlang.specs.RegionFlow.{Effect, nothing, nulled, moved, fixed, beside, made, under, loaded, looked_at, stored, present, absent, called, entered, assigned, Edge, Node, copies, result_variable, variables, scratch, routine_nodes}
use Rattle.rc_annotations.specs.Annotations.{Facts, Annotation, Consistent, Follows, allowed, exit_facts, fact_with, gained, is_below, renamed, renamed_by, returned_facts, some_below, NodeEdge}
use Rattle.rc_annotations.specs.Heights.{temporaries_of}
use Rattle.rc_annotations.specs.Laws.{Inside}
use Rattle.rc_annotations.proofs.Greatest.{follows_inside}
use Rattle.rc_facts.specs.Flow.{Behind}
use Rattle.rc_facts.specs.Shut.{together}
use Rattle.rc_edges.specs.Edges.{AreNews, EffectBelow, all_below, kept, renewed, spare}
use Rattle.rc_edges.specs.EdgeLaws.{AllBelow}
use Rattle.rc_edges.specs.Families.{Owned}
use Rattle.rc_edges.proofs.Adding.{news_are}
use Rattle.rc_edges.proofs.Carrying.{fewer_derive, news_allow}
use Rattle.rc_edges.proofs.Owning.{functions_own}
use Rattle.rc_edges.specs.Inferred.{GreatestOf, has_point, only_of}
use Rattle.rc_edges.proofs.Fitting.{calls_fit, returns_fit}
use Rattle.rc_edges.proofs.Restricting.{inside_only, only_consistent}
use Rattle.rc_edges.proofs.Closing.{some_out}
use Rattle.rc_edges.proofs.Downward.{Key, at_entry, at_exit, at_point, and_not, behind, below_more, below_over, call_drops, derivable_so, derives, derives_so, drops, edge_drops, entry_drops, exit_drops, has_key, keys, neither, news_at, news_over, node_calls, node_drops, not_false, of, over_below, over_more, point_drops, refute, renewed_below, return_drops, start, target, within, within_none, within_some}
use Rattle.rc_edges.proofs.Lists.{none_below, none_of}
use Rattle.rc_edges.proofs.Search.{Settled, next, settle}

module _ (r : Rlang) (fits : IsRlang r) where
  abbrev pub t : ℕ → ℕ
  t = temporaries_of r

  -- nothing is known beyond what may be, and all that a consistent annotation has is
  pub record Going (a : Key → Bool) : Type 0 where
    pub low : (k : Key) → a k ≡ true → start r t k ≡ true
    pub high : (b : Annotation) → Consistent r t (only_of r b) → Inside (only_of r b) (of a)

  module _ (a : Key → Bool) (p : Going a) (g : ℕ) (f : Routine) (there : slice_get r.functions g ≡ Some f) where
    own : Owned r t g f
    own = functions_own r fits g f there

    start_there : (test : Routine → Bool) → within (slice_get r.functions g) test ≡ true → test f ≡ true
    start_there test e = sym (ap (λ o. within o test) there) ∙ e

    point_over : (q : ℕ) (fact : Fact) → (of a).before g q fact ≡ true → is_over (spare f (t g)) fact ≡ true
    point_over q fact e = (and_parts (nat_lt q (length (routine_nodes f))) (is_over (spare f (t g)) fact) (start_there (λ h. nat_lt q (length (routine_nodes h)) && is_over (spare h (t g)) fact) (p.low (at_point g q fact) e))).1

    point_below : (q : ℕ) → AllBelow (spare f (t g)) ((of a).before g q)
    point_below q fact e = over_below (spare f (t g)) fact (point_over q fact e)

    entry_over : (fact : Fact) → (of a).entry g fact ≡ true → is_over (copies f) fact ≡ true
    entry_over fact e = start_there (λ h. is_over (copies h) fact) (and_parts (not (nat_eq g r.main)) (within (slice_get r.functions g) (λ h. is_over (copies h) fact)) (p.low (at_entry g fact) e)).1

    exit_over : (fact : Fact) → (of a).exit g fact ≡ true → is_over (suc (copies f)) fact ≡ true
    exit_over fact e = start_there (λ h. is_over (suc (copies h)) fact) (p.low (at_exit g fact) e)

    point_kept : (q : ℕ) (fact : Fact) → (of a).before g q fact ≡ true → is_over (kept f (t g)) fact ≡ true
    point_kept q fact e = over_more (spare f (t g)) (kept f (t g)) (omega arith) fact (point_over q fact e)

    entry_kept : (fact : Fact) → (of a).entry g fact ≡ true → is_over (kept f (t g)) fact ≡ true
    entry_kept fact e = over_more (copies f) (kept f (t g)) (let h = own.hidden in omega (arith, h)) fact (entry_over fact e)

    -- what an edge adds
    module _ (q : ℕ) (edge : Edge) (of_node : NodeEdge f q edge) where
      below : EffectBelow (spare f (t g)) edge.effect
      below = own.own q edge of_node

      are : AreNews (kept f (t g)) (exit_facts (of a)) (renewed (spare f (t g)) edge.effect) (news_at r t a g f edge.effect)
      are = news_are (kept f (t g)) (of a) (renewed (spare f (t g)) edge.effect) (renewed_below (spare f (t g)) edge.effect below)

      together_over : (fact : Fact) → together ((of a).before g q) (news_at r t a g f edge.effect) fact ≡ true → is_over (kept f (t g)) fact ≡ true
      together_over fact e = elim (or_cases ((of a).before g q fact) (list_any (λ n. same_fact n fact) (news_at r t a g f edge.effect)) e) [
        | inl old ↦ point_kept q fact old
        | inr new ↦ news_over (kept f (t g)) fact (news_at r t a g f edge.effect) are.over new
      ]

      abbrev Here : Fact → Type 0
      Here fact = Behind (kept f (t g)) (spare f (t g)) (assigned edge.effect) (news_at r t a g f edge.effect) ((of a).before g q) fact

      abbrev Allowed : Fact → Type 0
      Allowed fact = allowed (variables f (t g)) (scratch f (t g)) (gained (exit_facts (of a))) edge.effect ((of a).before g q) fact

      allows : (fact : Fact) → is_below (spare f (t g)) fact → Allowed fact ↔ Here fact
      allows fact b = news_allow (variables f (t g)) (spare f (t g)) (scratch f (t g)) (of a) edge.effect ((of a).before g q) (news_at r t a g f edge.effect) fact (omega arith) (omega arith) below (point_below q) b are

      here_by : (x : Option ℕ) (fact : Fact) → Behind (kept f (t g)) (spare f (t g)) x (news_at r t a g f edge.effect) ((of a).before g q) fact → (not (names (spare f (t g)) fact) && derives (kept f (t g)) (together ((of a).before g q) (news_at r t a g f edge.effect)) (target x (spare f (t g)) fact)) ≡ true
      here_by None fact h = and_from (not (names (spare f (t g)) fact)) _ (ap not h.1) (derives_so (kept f (t g)) (together ((of a).before g q) (news_at r t a g f edge.effect)) fact together_over h.0)
      here_by (Some x) fact h = and_from (not (names (spare f (t g)) fact)) _ (ap not h.1) (derives_so (kept f (t g)) (together ((of a).before g q) (news_at r t a g f edge.effect)) (with_replaced x (spare f (t g)) fact) together_over h.0)

      by_here : (x : Option ℕ) (fact : Fact) → (not (names (spare f (t g)) fact) && derives (kept f (t g)) (together ((of a).before g q) (news_at r t a g f edge.effect)) (target x (spare f (t g)) fact)) ≡ true → Behind (kept f (t g)) (spare f (t g)) x (news_at r t a g f edge.effect) ((of a).before g q) fact
      by_here None fact e = let parts = and_parts (not (names (spare f (t g)) fact)) _ e in (derivable_so (kept f (t g)) (together ((of a).before g q) (news_at r t a g f edge.effect)) fact parts.1, unnamed (names (spare f (t g)) fact) parts.0) where
        unnamed : (b : Bool) → not b ≡ true → b ≡ false
        unnamed true e = absurd cc
        unnamed false e = refl
      by_here (Some x) fact e = let parts = and_parts (not (names (spare f (t g)) fact)) _ e in (derivable_so (kept f (t g)) (together ((of a).before g q) (news_at r t a g f edge.effect)) (with_replaced x (spare f (t g)) fact) parts.1, unnamed (names (spare f (t g)) fact) parts.0) where
        unnamed : (b : Bool) → not b ≡ true → b ≡ false
        unnamed true e = absurd cc
        unnamed false e = refl

      pub behind_so : (fact : Fact) → is_below (spare f (t g)) fact → Allowed fact → behind r t a g f q edge fact ≡ true
      behind_so fact b d = here_by (assigned edge.effect) fact ((allows fact b).0 d)

      pub allowed_so : (fact : Fact) → is_below (spare f (t g)) fact → behind r t a g f q edge fact ≡ true → Allowed fact
      allowed_so fact b e = (allows fact b).1 (by_here (assigned edge.effect) fact e)

  -- ---- arguments, and results

  argument_below : (n : ℕ) (xs : List ℕ) (v : ℕ) → all_below n xs → v < length xs → get_or xs v 0 < n
  argument_below n [] v b l = absurd (omega (arith, l))
  argument_below n (x ∷ xs) zero b l = b.0
  argument_below n (x ∷ xs) (suc v) b l = argument_below n xs v b.1 (omega (arith, l))

  named_below : (m n : ℕ) (name : ℕ → ℕ) → ((v : ℕ) → v < m → name v < n) → (p : Fact) → is_below m p → is_below n (fact_with name p)
  named_below m n name h (In x y) b = (h x b.0, h y b.1)
  named_below m n name h (Up x y) b = (h x b.0, h y b.1)
  named_below m n name h (Trad x) b = h x b
  named_below m n name h (NonNull x) b = h x b

  put_less : (c s v : ℕ) → c ≤ s → v < suc c → renamed c s v < suc s
  put_less c s v le l = by (nat_eq v c)
    where
      by : (b : Bool) → renamed_by b s v < suc s
      by true = omega arith
      by false = omega (arith, le, l)

  same_called : (effect : Effect) (n : ℕ) (x : Option ℕ) (h : ℕ) (arguments : List ℕ) → effect ≡ called x h arguments → EffectBelow n effect → all_below n arguments
  same_called effect n x h arguments is b = (subst (EffectBelow n) is b).1

  module _ (g : ℕ) (f : Routine) (there : slice_get r.functions g ≡ Some f) where
    -- an argument's fact speaks of the caller's variables
    given_below : (q : ℕ) (edge : Edge) (x : Option ℕ) (h : ℕ) (arguments : List ℕ) → NodeEdge f q edge → edge.effect ≡ called x h arguments → (fact : Fact) → ((fh : Routine) → slice_get r.functions h ≡ Some fh → is_below (copies fh) fact) → is_below (kept f (t g)) (fact_with (λ v. get_or arguments v 0) fact)
    given_below q edge x h arguments of_node is fact b =
        let call = calls_fit r fits g f there q edge x h arguments of_node is in
        let all = same_called edge.effect (spare f (t g)) x h arguments is ((functions_own r fits g f there).own q edge of_node) in
        below_more (spare f (t g)) (kept f (t g)) (omega arith) (fact_with (λ v. get_or arguments v 0) fact)
        (named_below (copies call.routine) (spare f (t g)) (λ v. get_or arguments v 0) (λ v l. argument_below (spare f (t g)) arguments v all (let e = call.each in omega (arith, l, e))) fact (b call.routine call.there))

    returned_below : (q : ℕ) (node : Node) (given : Option ℕ) → slice_get (routine_nodes f) q ≡ Some node → node.returns ≡ Some given → (p : Fact) → returned_facts f (t g) given p ≡ true → is_over (kept f (t g)) p ≡ true
    returned_below q node None at is p e = absurd cc
    returned_below q node (Some x) at is p e =
        let l = returns_fit r fits g f there (t g) q node x at is in
        elim (or_cases (same_fact p (In (result_variable f (t g)) x)) (same_fact p (In x (result_variable f (t g)))) e) [
          | inl one ↦ subst (λ d. is_over (kept f (t g)) d ≡ true) (sym (same_fact-true p (In (result_variable f (t g)) x) one)) (below_over (kept f (t g)) (In (result_variable f (t g)) x) (omega arith, omega (arith, l)))
          | inr two ↦ subst (λ d. is_over (kept f (t g)) d ≡ true) (sym (same_fact-true p (In x (result_variable f (t g))) two)) (below_over (kept f (t g)) (In x (result_variable f (t g))) (omega (arith, l), omega arith))
        ]

    exit_below : (fact : Fact) → is_below (suc (copies f)) fact → is_below (kept f (t g)) (fact_with (renamed (copies f) (spare f (t g))) fact)
    exit_below fact b = named_below (suc (copies f)) (kept f (t g)) (renamed (copies f) (spare f (t g))) (λ v l. put_less (copies f) (spare f (t g)) v (functions_own r fits g f there).hidden l) fact b

  module _ (a : Key → Bool) (p : Going a) (g : ℕ) (f : Routine) (there : slice_get r.functions g ≡ Some f) where
    -- over fewer variables as much is derivable
    fewer : (given : Facts) (fact : Fact) → ((q : Fact) → given q ≡ true → is_over (kept f (t g)) q ≡ true) → is_below (kept f (t g)) fact → Derivable (variables f (t g)) given fact ↔ Derivable (kept f (t g)) given fact
    fewer given fact over b = fewer_derive (variables f (t g)) (kept f (t g)) given fact (omega arith) (omega arith) (λ q is. over_below (kept f (t g)) q (over q is)) b

    test_so : (given : Facts) (fact : Fact) → ((q : Fact) → given q ≡ true → is_over (kept f (t g)) q ≡ true) → is_below (kept f (t g)) fact → Derivable (variables f (t g)) given fact → derives (kept f (t g)) given fact ≡ true
    test_so given fact over b d = derives_so (kept f (t g)) given fact over ((fewer given fact over b).0 d)

    so_test : (given : Facts) (fact : Fact) → ((q : Fact) → given q ≡ true → is_over (kept f (t g)) q ≡ true) → is_below (kept f (t g)) fact → derives (kept f (t g)) given fact ≡ true → Derivable (variables f (t g)) given fact
    so_test given fact over b e = (fewer given fact over b).1 (derivable_so (kept f (t g)) given fact e)

    returned_over : (q : ℕ) (node : Node) (given : Option ℕ) → slice_get (routine_nodes f) q ≡ Some node → node.returns ≡ Some given → (s : Fact) → ((of a).before g q s || returned_facts f (t g) given s) ≡ true → is_over (kept f (t g)) s ≡ true
    returned_over q node given at is s e = elim (or_cases ((of a).before g q s) (returned_facts f (t g) given s) e) [
      | inl old ↦ point_kept a p g f there q s old
      | inr new ↦ returned_below g f there q node given at is s new
    ]

  -- ---- no step down drops what a consistent annotation has

  no_drop : (d : Bool) → (d ≡ true → ⊥) → d ≡ false
  no_drop true h = absurd (h refl)
  no_drop false h = refl

  record ACall (a : Key → Bool) (g : ℕ) (f : Routine) (q h : ℕ) (fact : Fact) (effect : Effect) : Type 0 where
    result : Option ℕ
    arguments : List ℕ
    is : effect ≡ called result h arguments
    no : not (derives (kept f (t g)) ((of a).before g q) (fact_with (λ v. get_or arguments v 0) fact)) ≡ true

  is_call : (a : Key → Bool) (g : ℕ) (f : Routine) (q h : ℕ) (fact : Fact) (effect : Effect) → call_drops r t a g f q h fact effect ≡ true → ACall a g f q h fact effect
  is_call a g f q h fact nothing e = absurd cc
  is_call a g f q h fact (nulled x) e = absurd cc
  is_call a g f q h fact (moved x y) e = absurd cc
  is_call a g f q h fact (fixed x) e = absurd cc
  is_call a g f q h fact (beside x y) e = absurd cc
  is_call a g f q h fact (made x) e = absurd cc
  is_call a g f q h fact (under x y) e = absurd cc
  is_call a g f q h fact (loaded x y note) e = absurd cc
  is_call a g f q h fact (looked_at y) e = absurd cc
  is_call a g f q h fact (stored z y note) e = absurd cc
  is_call a g f q h fact (present y) e = absurd cc
  is_call a g f q h fact (absent y) e = absurd cc
  is_call a g f q h fact (called x k arguments) e =
      let parts = and_parts (nat_eq k h) (not (derives (kept f (t g)) ((of a).before g q) (fact_with (λ v. get_or arguments v 0) fact))) e in
      record { result = x; arguments = arguments; is = ap (λ j. called x j arguments) (eqb-true k h parts.0); no = parts.1 }
  is_call a g f q h fact (entered pairs) e = absurd cc

  module _ (a : Key → Bool) (p : Going a) (b : Annotation) (c : Consistent r t (only_of r b)) where
    inside : Inside (only_of r b) (of a)
    inside = p.high b c

    follows : Follows r t (only_of r b) (of a)
    follows = follows_inside r t (only_of r b) (of a) c inside

    point_stays : (g q : ℕ) (fact : Fact) → (only_of r b).before g q fact ≡ true → drops r t a (at_point g q fact) ≡ true → ⊥
    point_stays g q fact is e =
        let w = within_some (slice_get r.functions g) (point_drops r t a g q fact) e in
        let f = w.0 in
        elim (or_cases (some_below (λ n. within (slice_get (routine_nodes f) n) (node_drops r t a g f q n fact)) (length (routine_nodes f))) _ w.2) [
          | inl some ↦
              let at = some_out (λ n. within (slice_get (routine_nodes f) n) (node_drops r t a g f q n fact)) (length (routine_nodes f)) some in
              let node = within_some (slice_get (routine_nodes f) at.0) (node_drops r t a g f q at.0 fact) at.2 in
              let place = some_out (λ k. within (slice_get node.0.edges k) (edge_drops r t a g f q at.0 fact)) (length node.0.edges) node.2 in
              let edge = within_some (slice_get node.0.edges place.0) (edge_drops r t a g f q at.0 fact) place.2 in
              let parts = and_parts (nat_eq edge.0.to q) (not (behind r t a g f at.0 edge.0 fact)) edge.2 in
              let leads = eqb-true edge.0.to q parts.0 in
              let one : NodeEdge f at.0 edge.0 = record { node = node.0; place = place.0; there = node.1; is = edge.1 } in
              refute (behind r t a g f at.0 edge.0 fact)
              (behind_so a p g f w.1 at.0 edge.0 one fact (c.at_points g f q fact w.1 is)
              (follows.along g f at.0 edge.0 fact w.1 one (subst (λ k. (only_of r b).before g k fact ≡ true) (sym leads) is)))
              parts.1
          | inr last ↦
              let parts = and_parts (nat_eq q 0) (not (derives (kept f (t g)) ((of a).entry g) fact)) last in
              let first = subst (λ k. (only_of r b).before g k fact ≡ true) (eqb-true q 0 parts.0) is in
              refute (derives (kept f (t g)) ((of a).entry g) fact)
              (test_so a p g f w.1 ((of a).entry g) fact (entry_kept a p g f w.1) (below_more (spare f (t g)) (kept f (t g)) (omega arith) fact (c.at_points g f q fact w.1 is)) (follows.entry g f fact w.1 first))
              parts.1
        ]

    entry_stays : (h : ℕ) (fact : Fact) → (only_of r b).entry h fact ≡ true → drops r t a (at_entry h fact) ≡ true → ⊥
    entry_stays h fact is e =
        let caller = some_out (λ g. within (slice_get r.functions g) (entry_drops r t a h fact g)) (length r.functions) e in
        let g = caller.0 in
        let w = within_some (slice_get r.functions g) (entry_drops r t a h fact g) caller.2 in
        let f = w.0 in
        let at = some_out (λ n. within (slice_get (routine_nodes f) n) (node_calls r t a g f n h fact)) (length (routine_nodes f)) w.2 in
        let node = within_some (slice_get (routine_nodes f) at.0) (node_calls r t a g f at.0 h fact) at.2 in
        let place = some_out (λ k. within (slice_get node.0.edges k) (λ (edge : Edge). call_drops r t a g f at.0 h fact edge.effect)) (length node.0.edges) node.2 in
        let edge = within_some (slice_get node.0.edges place.0) (λ (edge : Edge). call_drops r t a g f at.0 h fact edge.effect) place.2 in
        let call = is_call a g f at.0 h fact edge.0.effect edge.2 in
        let one : NodeEdge f at.0 edge.0 = record { node = node.0; place = place.0; there = node.1; is = edge.1 } in
        refute (derives (kept f (t g)) ((of a).before g at.0) (fact_with (λ v. get_or call.arguments v 0) fact))
        (test_so a p g f w.1 ((of a).before g at.0) (fact_with (λ v. get_or call.arguments v 0) fact) (point_kept a p g f w.1 at.0)
        (given_below g f w.1 at.0 edge.0 call.result h call.arguments one call.is fact (λ fh there. c.at_entries h fh fact there is))
        (follows.calls g f at.0 edge.0 call.result h call.arguments fact w.1 one call.is is))
        call.no

    exit_stays : (g : ℕ) (fact : Fact) → (only_of r b).exit g fact ≡ true → drops r t a (at_exit g fact) ≡ true → ⊥
    exit_stays g fact is e =
        let w = within_some (slice_get r.functions g) (exit_drops r t a g fact) e in
        let f = w.0 in
        let at = some_out (λ n. within (slice_get (routine_nodes f) n) (λ (node : Node). within node.returns (return_drops r t a g f n fact))) (length (routine_nodes f)) w.2 in
        let node = within_some (slice_get (routine_nodes f) at.0) (λ (node : Node). within node.returns (return_drops r t a g f at.0 fact)) at.2 in
        let given = within_some node.0.returns (return_drops r t a g f at.0 fact) node.2 in
        refute (derives (kept f (t g)) (λ s. (of a).before g at.0 s || returned_facts f (t g) given.0 s) (fact_with (renamed (copies f) (spare f (t g))) fact))
        (test_so a p g f w.1 (λ s. (of a).before g at.0 s || returned_facts f (t g) given.0 s) (fact_with (renamed (copies f) (spare f (t g))) fact) (returned_over a p g f w.1 at.0 node.0 given.0 node.1 given.1)
        (exit_below g f w.1 fact (c.at_exits g f fact w.1 is))
        (follows.exit g f at.0 given.0 fact w.1 (record { node = node.0; there = node.1; returns = given.1 }) is))
        given.2

  keeps : (a : Key → Bool) → Going a → Going (next (drops r t) a)
  keeps a p = record {
    low = λ k e. p.low k (and_parts (a k) (not (drops r t a k)) e).0;
    high = λ b c. record {
      before = λ g q fact is. and_from (a (at_point g q fact)) _ ((p.high b c).before g q fact is) (ap not (no_drop (drops r t a (at_point g q fact)) (point_stays a p b c g q fact is)));
      entry = λ g fact is. and_from (a (at_entry g fact)) _ ((p.high b c).entry g fact is) (ap not (no_drop (drops r t a (at_entry g fact)) (entry_stays a p b c g fact is)));
      exit = λ g fact is. and_from (a (at_exit g fact)) _ ((p.high b c).exit g fact is) (ap not (no_drop (drops r t a (at_exit g fact)) (exit_stays a p b c g fact is)));
    };
  }

  -- ---- where it begins

  module _ (b : Annotation) (c : Consistent r t (only_of r b)) where
    begin_point : (g q : ℕ) (fact : Fact) (o : Option Routine) → slice_get r.functions g ≡ o → (has_point o q && b.before g q fact) ≡ true → within o (λ f. nat_lt q (length (routine_nodes f)) && is_over (spare f (t g)) fact) ≡ true
    begin_point g q fact None is e = absurd cc
    begin_point g q fact (Some f) is e =
        let parts = and_parts (nat_lt q (length (routine_nodes f))) (b.before g q fact) e in
        and_from (nat_lt q (length (routine_nodes f))) (is_over (spare f (t g)) fact) parts.0
        (below_over (spare f (t g)) fact (c.at_points g f q fact is (subst (λ (o : Option Routine). (has_point o q && b.before g q fact) ≡ true) (sym is) e)))

    begin_exit : (g : ℕ) (fact : Fact) (o : Option Routine) → slice_get r.functions g ≡ o → (is_some o && b.exit g fact) ≡ true → within o (λ f. is_over (suc (copies f)) fact) ≡ true
    begin_exit g fact None is e = absurd cc
    begin_exit g fact (Some f) is e = below_over (suc (copies f)) fact (c.at_exits g f fact is (subst (λ (o : Option Routine). (is_some o && b.exit g fact) ≡ true) (sym is) e))

    begin_entry : (g : ℕ) (fact : Fact) (o : Option Routine) → slice_get r.functions g ≡ o → (is_some o && b.entry g fact) ≡ true → within o (λ f. is_over (copies f) fact) ≡ true
    begin_entry g fact None is e = absurd cc
    begin_entry g fact (Some f) is e = below_over (copies f) fact (c.at_entries g f fact is (subst (λ (o : Option Routine). (is_some o && b.entry g fact) ≡ true) (sym is) e))

    not_main : (g : ℕ) (fact : Fact) → (only_of r b).entry g fact ≡ true → not (nat_eq g r.main) ≡ true
    not_main g fact e = by (nat_eq g r.main) refl
      where
        by : (d : Bool) → nat_eq g r.main ≡ d → not d ≡ true
        by true is = absurd (let here = subst (λ k. (only_of r b).entry k fact ≡ true) (eqb-true g r.main is) e in let gone : true ≡ false = sym here ∙ c.main fact in cc)
        by false is = refl

  begin : Going (start r t)
  begin = record {
    low = λ k e. e;
    high = λ b c. record {
      before = λ g q fact is. begin_point b c g q fact (slice_get r.functions g) refl is;
      entry = λ g fact is. and_from (not (nat_eq g r.main)) _ (not_main b c g fact is) (begin_entry b c g fact (slice_get r.functions g) refl is);
      exit = λ g fact is. begin_exit b c g fact (slice_get r.functions g) refl is;
    };
  }

  -- ---- where it ends

  pub ended : Settled (drops r t) (keys r t) Going
  ended = settle (drops r t) (keys r t) Going keeps (start r t) begin

  abbrev pub reached : Key → Bool
  reached = ended.state

  stays : (k : Key) → reached k ≡ true → drops r t reached k ≡ false
  stays k e = by (reached k) (drops r t reached k) e (none_of (λ j. reached j && drops r t reached j) k (keys r t) ended.stable (has_key r t k (ended.holds.low k e)))
    where
      by : (x d : Bool) → x ≡ true → (x && d) ≡ false → d ≡ false
      by true d e h = h
      by false d e h = absurd cc

  -- each test at a node of a function that is there
  at_node : (f : Routine) (test : ℕ → Node → Bool) (q : ℕ) (node : Node) → some_below (λ n. within (slice_get (routine_nodes f) n) (test n)) (length (routine_nodes f)) ≡ false → slice_get (routine_nodes f) q ≡ Some node → test q node ≡ false
  at_node f test q node none is = within_none (slice_get (routine_nodes f) q) (test q) node (none_below (λ n. within (slice_get (routine_nodes f) n) (test n)) (length (routine_nodes f)) q none (slice_get_within (routine_nodes f) q node is)) is

  at_edge : (node : Node) (test : Edge → Bool) (e : ℕ) (edge : Edge) → some_below (λ n. within (slice_get node.edges n) test) (length node.edges) ≡ false → slice_get node.edges e ≡ Some edge → test edge ≡ false
  at_edge node test e edge none is = within_none (slice_get node.edges e) test edge (none_below (λ n. within (slice_get node.edges n) test) (length node.edges) e none (slice_get_within node.edges e edge is)) is

  a_call : (g : ℕ) (f : Routine) (q h : ℕ) (fact : Fact) (effect : Effect) (x : Option ℕ) (arguments : List ℕ) → effect ≡ called x h arguments → call_drops r t reached g f q h fact effect ≡ false → derives (kept f (t g)) ((of reached).before g q) (fact_with (λ v. get_or arguments v 0) fact) ≡ true
  a_call g f q h fact effect x arguments is none = and_not (nat_eq h h) (derives (kept f (t g)) ((of reached).before g q) (fact_with (λ v. get_or arguments v 0) fact)) (sym (ap (call_drops r t reached g f q h fact) is) ∙ none) (eq-eqb h h refl)

  consistent : Consistent r t (of reached)
  consistent = record {
    at_entries = λ g f fact there is. over_below (copies f) fact (entry_over reached ended.holds g f there fact is);
    at_exits = λ g f fact there is. over_below (suc (copies f)) fact (exit_over reached ended.holds g f there fact is);
    at_points = λ g f q fact there is. point_below reached ended.holds g f there q fact is;
    follows = record {
      along = λ g f q edge fact there one is. (
          let none = (neither _ _ (within_none (slice_get r.functions g) (point_drops r t reached g edge.to fact) f (stays (at_point g edge.to fact) is) there)).0 in
          let drop = at_edge one.node (edge_drops r t reached g f edge.to q fact) one.place edge (at_node f (λ n. node_drops r t reached g f edge.to n fact) q one.node none one.there) one.is in
          allowed_so reached ended.holds g f there q edge one fact (point_below reached ended.holds g f there edge.to fact is) (and_not (nat_eq edge.to edge.to) (behind r t reached g f q edge fact) drop (eq-eqb edge.to edge.to refl)));
      calls = λ g f q edge x h arguments fact there one is_call is. (
          let none = within_none (slice_get r.functions g) (entry_drops r t reached h fact g) f (none_below (λ k. within (slice_get r.functions k) (entry_drops r t reached h fact k)) (length r.functions) g (stays (at_entry h fact) is) (slice_get_within r.functions g f there)) there in
          let drop = at_edge one.node (λ (d : Edge). call_drops r t reached g f q h fact d.effect) one.place edge (at_node f (λ n. node_calls r t reached g f n h fact) q one.node none one.there) one.is in
          so_test reached ended.holds g f there ((of reached).before g q) (fact_with (λ v. get_or arguments v 0) fact) (point_kept reached ended.holds g f there q)
          (given_below g f there q edge x h arguments one is_call fact (λ fh th. over_below (copies fh) fact (entry_over reached ended.holds h fh th fact is)))
          (a_call g f q h fact edge.effect x arguments is_call drop));
      entry = λ g f fact there is. (
          let none = (neither _ _ (within_none (slice_get r.functions g) (point_drops r t reached g 0 fact) f (stays (at_point g 0 fact) is) there)).1 in
          so_test reached ended.holds g f there ((of reached).entry g) fact (entry_kept reached ended.holds g f there) (below_more (spare f (t g)) (kept f (t g)) (omega arith) fact (point_below reached ended.holds g f there 0 fact is)) (not_false (derives (kept f (t g)) ((of reached).entry g) fact) none));
      exit = λ g f q given fact there one is. (
          let none = within_none (slice_get r.functions g) (exit_drops r t reached g fact) f (stays (at_exit g fact) is) there in
          let drop = within_none one.node.returns (return_drops r t reached g f q fact) given (at_node f (λ n (d : Node). within d.returns (return_drops r t reached g f n fact)) q one.node none one.there) one.returns in
          so_test reached ended.holds g f there (λ s. (of reached).before g q s || returned_facts f (t g) given s) (fact_with (renamed (copies f) (spare f (t g))) fact) (returned_over reached ended.holds g f there q one.node given one.there one.returns)
          (exit_below g f there fact (over_below (suc (copies f)) fact (exit_over reached ended.holds g f there fact is)))
          (not_false (derives (kept f (t g)) (λ s. (of reached).before g q s || returned_facts f (t g) given s) (fact_with (renamed (copies f) (spare f (t g))) fact)) drop));
    };
    main = λ fact. no_drop (reached (at_entry r.main fact)) (λ e. refute (nat_eq r.main r.main) (eq-eqb r.main r.main refl) (and_parts (not (nat_eq r.main r.main)) _ (ended.holds.low (at_entry r.main fact) e)).0);
  }

  pub greatest : GreatestOf r t (of reached)
  greatest = record {
    consistent = consistent;
    greatest = λ b c. inside_only r b (of reached) (ended.holds.high b (only_consistent r fits b c));
  }
