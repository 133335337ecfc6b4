-- The heads of a function, as they are marked.
use Rattle.std.proofs.Common.{◌≡◌, ◌+◌, ◌<◌, ◌≤◌, ℕ, zero, suc, List, [], ◌∷◌, ◌++◌, Bool, true, false, Some, IsTrue, length, get_or, inl, inr, refl, sym, ap, subst, ◌∙◌, arith, length-set, get_or-set_same, get_or-set_other}
use Rattle.std.specs.Prelude.{slice_get, slice_set, nat_eq, not}
use Rattle.std.specs.Bool.{beq}
use Rattle.std.proofs.lemmas.Grind.{common_steps}
use Rattle.std.proofs.lemmas.Bool.{cases_eq, cases_lt, cases_Bool, eq-eqb, ne_eqb, true≢false, false≢true}
use Rattle.std.proofs.lemmas.Option.{none-some, same_Some, slice_get_past}
use Rattle.rc_rlang.specs.RegionFlow.{Edge, Effect, Node, going, forking}
use Rattle.rc_graph.specs.Heads.{AreHeads, ComesAlone, LeadsAlone}
use Rattle.rc_graph.specs.Heading.{AreBegun, AreMarked, Grew, IsMarked}

abbrev edge_of : Effect → ℕ → Edge
edge_of e to = record { effect = e; to = to }

pub goes_alone : (e : Effect) (next to : ℕ) → next ≡ to → (edge : Edge) × LeadsAlone (going e next) to edge
goes_alone e next to leads = (edge_of e next, record { place = 0; is = refl; leads = leads; alone = only })
  where
    only : (k : ℕ) (other : Edge) → slice_get (going e next).edges k ≡ Some other → other.to ≡ to → other ≡ edge_of e next
    only zero other here to_it = sym (same_Some _ _ here)
    only (suc k) other here to_it = absurd (none-some _ here)

pub left_alone : (e d : Effect) (one two to : ℕ) → one ≡ to → (two ≡ to → ⊥) → (edge : Edge) × LeadsAlone (forking e d one two) to edge
left_alone e d one two to leads apart = (edge_of e one, record { place = 0; is = refl; leads = leads; alone = only })
  where
    only : (k : ℕ) (other : Edge) → slice_get (forking e d one two).edges k ≡ Some other → other.to ≡ to → other ≡ edge_of e one
    only zero other here to_it = sym (same_Some _ _ here)
    only (suc zero) other here to_it = absurd (apart (ap (λ (x : Edge). x.to) (same_Some _ _ here) ∙ to_it))
    only (suc (suc k)) other here to_it = absurd (none-some _ here)

pub right_alone : (e d : Effect) (one two to : ℕ) → (one ≡ to → ⊥) → two ≡ to → (edge : Edge) × LeadsAlone (forking e d one two) to edge
right_alone e d one two to apart leads = (edge_of d two, record { place = 1; is = refl; leads = leads; alone = only })
  where
    only : (k : ℕ) (other : Edge) → slice_get (forking e d one two).edges k ≡ Some other → other.to ≡ to → other ≡ edge_of d two
    only zero other here to_it = absurd (apart (ap (λ (x : Edge). x.to) (same_Some _ _ here) ∙ to_it))
    only (suc zero) other here to_it = sym (same_Some _ _ here)
    only (suc (suc k)) other here to_it = absurd (none-some _ here)

-- ---- marks

pub same_heads : (heads : List Bool) → Grew heads heads
same_heads heads = record { long = refl; kept = λ p is. is }

pub grew_on : (a b c : List Bool) → Grew a b → Grew b c → Grew a c
grew_on a b c first second = record { long = second.long ∙ first.long; kept = λ p is. second.kept p (first.kept p is) }

pub grew_one : (heads : List Bool) (at : ℕ) → at < length heads → Grew heads (slice_set heads at true)
grew_one heads at inside = record {
  long = length-set heads at true;
  kept = λ p is. elim (cases_eq p at) [
    | inl same ↦ ap (λ k. get_or (slice_set heads at true) k true) same ∙ get_or-set_same heads at true true inside
    | inr apart ↦ get_or-set_other heads at p true true apart ∙ is
  ];
}

pub marked_one : (heads : List Bool) (next at : ℕ) → at < length heads → IsMarked next at (slice_set heads at true)
marked_one heads next at inside apart = get_or-set_same heads at true true inside

past : (heads : List Bool) (at : ℕ) → length heads ≤ at → get_or heads at true ≡ true
past [] at le = refl
past (h ∷ hs) zero le = absurd (omega (arith, le))
past (h ∷ hs) (suc at) le = past hs at (omega (arith, le))

pub marked_past : (heads : List Bool) (next at : ℕ) → (at < length heads → ⊥) → IsMarked next at heads
marked_past heads next at out apart = past heads at (omega (arith, out))

pub still_marked : (old new : List Bool) (next to : ℕ) → Grew old new → IsMarked next to old → IsMarked next to new
still_marked old new next to grew marked apart = grew.kept to (marked apart)

pub still_all : (nodes : List Node) (k : ℕ) (old new : List Bool) → Grew old new → AreMarked nodes k old → AreMarked nodes k new
still_all nodes k old new grew marked point edge below of = still_marked old new (suc point) edge.to grew (marked point edge below of)

pub none_marked : (nodes : List Node) (heads : List Bool) → AreMarked nodes 0 heads
none_marked nodes heads point edge below of = absurd (omega (arith, below))

pub more_marked : (nodes : List Node) (k : ℕ) (node : Node) (old new : List Bool) → slice_get nodes k ≡ Some node → Grew old new → AreMarked nodes k old →
    ((j : ℕ) (edge : Edge) → slice_get node.edges j ≡ Some edge → IsMarked (suc k) edge.to new) → AreMarked nodes (k + 1) new
more_marked nodes k node old new there grew before here point edge below of = elim (cases_eq point k) [
  | inl same ↦
      (let is = same_Some _ _ (sym of.there ∙ ap (slice_get nodes) same ∙ there) in
      subst (λ p. IsMarked (suc p) edge.to new) (sym same) (here of.place edge (ap (λ (n : Node). slice_get n.edges of.place) (sym is) ∙ of.is)))
  | inr apart ↦ still_marked old new (suc point) edge.to grew (before point edge (omega (arith, below, apart)) of)
]

-- ---- beginning

pub begun_none : (nodes : List Node) → AreBegun nodes 0 (true ∷ [])
begun_none nodes = record { long = refl; first = refl; inner = λ point is. absurd (true≢false (sym (past (true ∷ []) (suc point) (omega arith)) ∙ is)) }

pub begun_more : (nodes : List Node) (k : ℕ) (node : Node) (heads : List Bool) (alone : Bool) → slice_get nodes k ≡ Some node → AreBegun nodes k heads →
    (IsTrue alone → (edge : Edge) × LeadsAlone node (suc k) edge) → AreBegun nodes (k + 1) (heads ++ not alone ∷ [])
begun_more nodes k node heads alone there before leads = record {
  long = (let long = before.long in grind (arith, common_steps, long));
  first = (let long = before.long in let first = before.first in grind (arith, common_steps, long, first));
  inner = λ point is. elim (cases_lt point k) [
    | inl below ↦ before.inner point (let long = before.long in grind (arith, common_steps, long, is, below))
    | inr over ↦ elim (cases_eq point k) [
      | inl same ↦ (node, ap (slice_get nodes) same ∙ there, subst (λ p. (edge : Edge) × LeadsAlone node (suc p) edge) (sym same) (leads (is_alone alone (let long = before.long in grind (arith, common_steps, long, is, same)))))
      | inr apart ↦ absurd (true≢false (sym (past (heads ++ not alone ∷ []) (suc point) (let long = before.long in grind (arith, common_steps, long, over, apart))) ∙ is))
    ]
  ];
}
  where
    is_alone : (b : Bool) → not b ≡ false → IsTrue b
    is_alone true is = refl
    is_alone false is = absurd (true≢false is)

-- ---- both

pub are_heads : (nodes : List Node) (first heads : List Bool) → AreBegun nodes (length nodes) first → Grew first heads → AreMarked nodes (length nodes) heads → AreHeads nodes heads
are_heads nodes first heads begun grew marked = record { long = grew.long ∙ begun.long; first = grew.kept 0 begun.first; inner = inner }
  where
    was : (p : ℕ) → get_or heads p true ≡ false → get_or first p true ≡ false
    was p is = elim (cases_Bool (get_or first p true)) [
      | inl was_one ↦ absurd (true≢false (sym (grew.kept p was_one) ∙ is))
      | inr was_none ↦ was_none
    ]

    inside : (q : ℕ) (node : Node) → slice_get nodes q ≡ Some node → q < length nodes
    inside q node there = elim (cases_lt q (length nodes)) [
      | inl below ↦ below
      | inr over ↦ absurd (none-some _ (sym (slice_get_past nodes q over) ∙ there))
    ]

    inner : (point : ℕ) → get_or heads (suc point) true ≡ false → (edge : Edge) × ComesAlone nodes point edge
    inner point is =
        let found = begun.inner point (was (suc point) is) in
        let node = found.0 in
        let there = found.1 in
        let edge = found.2.0 in
        let leads = found.2.1 in (
          edge,
          record {
            of = record { node = node; place = leads.place; there = there; is = leads.is };
            leads = leads.leads;
            alone = λ from other of to_it. elim (cases_eq from point) [
              | inl same ↦
                  (let one = same_Some _ _ (sym of.there ∙ ap (slice_get nodes) same ∙ there) in
                  (same, leads.alone of.place other (ap (λ (n : Node). slice_get n.edges of.place) (sym one) ∙ of.is) to_it))
              | inr apart ↦ absurd (true≢false (sym (ap (λ k. get_or heads k true) (sym to_it) ∙ marked from other (inside from of.node of.there) of (λ e. apart (omega (arith, e, to_it)))) ∙ is))
            ];
          },
        )

-- ---- a fork

differ : (a b : Bool) → a ≡ b → IsTrue (not (beq a b)) → ⊥
differ true true same is = false≢true is
differ false false same is = false≢true is
differ true false same is = true≢false same
differ false true same is = false≢true same

pub forks_alone : (e d : Effect) (one two to : ℕ) → IsTrue (not (beq (nat_eq one to) (nat_eq two to))) → (edge : Edge) × LeadsAlone (forking e d one two) to edge
forks_alone e d one two to is = elim (cases_eq one to) [
  | inl here ↦ left_alone e d one two to here (λ there. differ (nat_eq one to) (nat_eq two to) (eq-eqb one to here ∙ sym (eq-eqb two to there)) is)
  | inr apart ↦ elim (cases_eq two to) [
    | inl there ↦ right_alone e d one two to apart there
    | inr far ↦ absurd (differ (nat_eq one to) (nat_eq two to) (ne_eqb one to apart ∙ sym (ne_eqb two to far)) is)
  ]
]
