-- From all facts downward, as long as one is dropped, to the greatest consistent annotation.
use Rattle.std.proofs.Common.{◌≡◌, ◌<◌, ◌≤◌, ◌+◌, ◌⊎◌, inl, inr, ℕ, zero, suc, Bool, true, false, ◌&&◌, ◌||◌, not, nat_eq, List, [], ◌∷◌, ◌++◌, length, map, get_or, Option, Some, None, refl, sym, ap, ◌∙◌, subst, arith, IsTrue}
use Rattle.std.specs.Prelude.{nat_lt, slice_get}
use Rattle.std.specs.List.{All, list_any}
use Rattle.std.proofs.lemmas.Bool.{and_parts, and_from, or_cases, lt-ltb, ltb-true, eqb-true, eqb-false}
use Rattle.rc_facts.specs.declared.fact.Fact.{Fact}
use Rattle.rc_facts.specs.declared.fact.Fact.TheVariants.{In, Up, Trad, NonNull}
use Rattle.rc_facts.specs.Derivable.{Derivable}
use Rattle.rc_facts.specs.Facts.{is_over, same_fact, names, with_replaced}
use Rattle.rc_facts.specs.Inside.{facts_over}
use Rattle.rc_facts.proofs.Sets.{all_over, same_fact-true}
use Rattle.rc_rlang.specs.RegionCode.{Routine, Rlang}
use Rattle.rc_rlang.specs.RegionFlow.{Effect, nothing, nulled, moved, fixed, beside, made, under, loaded, looked_at, stored, present, absent, called, entered, assigned, Edge, Node, copies, routine_nodes}
use Rattle.rc_annotations.specs.Annotations.{Facts, Annotation, fact_with, is_below, renamed, returned_facts, some_below}
use Rattle.rc_annotations.proofs.Derivations.{derivable_more}
use Rattle.rc_facts.specs.Shut.{together}
use Rattle.rc_edges.specs.Edges.{EffectBelow, all_below, kept, pairs_below, renewed, spare}
use Rattle.rc_edges.specs.News.{news_of}
use Rattle.rc_edges.proofs.Closing.{decided}
use Rattle.rc_edges.proofs.Lists.{Has, has_left, has_mapped, has_right}

pub data Key : Type 0 where
  at_point : (function point : ℕ) → Fact → Key
  at_entry : (function : ℕ) → Fact → Key
  at_exit : (function : ℕ) → Fact → Key

abbrev pub of : (Key → Bool) → Annotation
of a = record { before = λ g p fact. a (at_point g p fact); entry = λ g fact. a (at_entry g fact); exit = λ g fact. a (at_exit g fact) }

-- ---- tests

abbrev pub within : {A : Type 0} → Option A → (A → Bool) → Bool
within None test = false
within (Some x) test = test x

pub within_none : {A : Type 0} (o : Option A) (test : A → Bool) (x : A) → within o test ≡ false → o ≡ Some x → test x ≡ false
within_none o test x none is = sym (ap (λ o. within o test) is) ∙ none

pub within_some : {A : Type 0} (o : Option A) (test : A → Bool) → within o test ≡ true → (x : A) × (o ≡ Some x) × (test x ≡ true)
within_some None test e = absurd cc
within_some (Some x) test e = (x, refl, e)

pub refute : {P : Type 0} (b : Bool) → b ≡ true → not b ≡ true → P
refute true e f = absurd cc
refute false e f = absurd cc

pub neither : (a b : Bool) → (a || b) ≡ false → (a ≡ false) × (b ≡ false)
neither true b h = absurd cc
neither false b h = (refl, h)

pub and_not : (a b : Bool) → (a && not b) ≡ false → a ≡ true → b ≡ true
and_not true true h e = refl
and_not true false h e = absurd cc
and_not false b h e = absurd cc

pub not_false : (b : Bool) → not b ≡ false → b ≡ true
not_false true h = refl
not_false false h = absurd cc

-- ---- facts over variables

pub over_below : (n : ℕ) (p : Fact) → is_over n p ≡ true → is_below n p
over_below n (In x y) e = let q = and_parts (nat_lt x n) (nat_lt y n) e in (ltb-true x n q.0, ltb-true y n q.1)
over_below n (Up x y) e = let q = and_parts (nat_lt x n) (nat_lt y n) e in (ltb-true x n q.0, ltb-true y n q.1)
over_below n (Trad x) e = ltb-true x n e
over_below n (NonNull x) e = ltb-true x n e

pub below_over : (n : ℕ) (p : Fact) → is_below n p → is_over n p ≡ true
below_over n (In x y) b = and_from (nat_lt x n) (nat_lt y n) (lt-ltb x n b.0) (lt-ltb y n b.1)
below_over n (Up x y) b = and_from (nat_lt x n) (nat_lt y n) (lt-ltb x n b.0) (lt-ltb y n b.1)
below_over n (Trad x) b = lt-ltb x n b
below_over n (NonNull x) b = lt-ltb x n b

pub below_more : (m n : ℕ) → m ≤ n → (p : Fact) → is_below m p → is_below n p
below_more m n le (In x y) b = ((let l = b.0 in omega (arith, l, le)), (let l = b.1 in omega (arith, l, le)))
below_more m n le (Up x y) b = ((let l = b.0 in omega (arith, l, le)), (let l = b.1 in omega (arith, l, le)))
below_more m n le (Trad x) b = omega (arith, b, le)
below_more m n le (NonNull x) b = omega (arith, b, le)

pub over_more : (m n : ℕ) → m ≤ n → (p : Fact) → is_over m p ≡ true → is_over n p ≡ true
over_more m n le p e = below_over n p (below_more m n le p (over_below m p e))

-- what is derivable, as a test
abbrev pub masked : ℕ → Facts → Facts
masked n given f = is_over n f && given f

pub masked_over : (n : ℕ) (given : Facts) (f : Fact) → masked n given f ≡ true → is_over n f ≡ true
masked_over n given f e = (and_parts (is_over n f) (given f) e).0

abbrev pub derives : ℕ → Facts → Fact → Bool
derives n given f = (decided n (masked n given) (masked_over n given)).derived f

pub derives_so : (n : ℕ) (given : Facts) (f : Fact) → ((p : Fact) → given p ≡ true → is_over n p ≡ true) → Derivable n given f → derives n given f ≡ true
derives_so n given f over d = ((decided n (masked n given) (masked_over n given)).is f).1 (derivable_more (λ p is. and_from (is_over n p) (given p) (over p is) is) d)

pub derivable_so : (n : ℕ) (given : Facts) (f : Fact) → derives n given f ≡ true → Derivable n given f
derivable_so n given f e = derivable_more (λ p is. (and_parts (is_over n p) (given p) is).1) (((decided n (masked n given) (masked_over n given)).is f).0 e)

pub news_over : (n : ℕ) (fact : Fact) (news : List Fact) → All (λ p. IsTrue (is_over n p)) news → list_any (λ p. same_fact p fact) news ≡ true → is_over n fact ≡ true
news_over n fact [] over e = absurd cc
news_over n fact (p ∷ news) over e = by (or_cases (same_fact p fact) (list_any (λ q. same_fact q fact) news) e) (news_over n fact news (λ k d l. over (suc k) d (omega (arith, l))))
  where
    by : (same_fact p fact ≡ true) ⊎ (list_any (λ q. same_fact q fact) news ≡ true) → (list_any (λ q. same_fact q fact) news ≡ true → is_over n fact ≡ true) → is_over n fact ≡ true
    by (inl is) again = subst (λ q. is_over n q ≡ true) (same_fact-true p fact is) (over 0 p (omega arith))
    by (inr rest) again = again rest

pub has_fact : (f : Fact) (facts : List Fact) → list_any (same_fact f) facts ≡ true → Has f facts
has_fact f [] e = absurd cc
has_fact f (p ∷ facts) e = elim (or_cases (same_fact f p) (list_any (same_fact f) facts) e) [
  | inl is ↦ inl (same_fact-true f p is)
  | inr rest ↦ inr (has_fact f facts rest)
]

-- with the scratch variable assigned, an effect speaks of one variable more

more_args : (s : ℕ) (xs : List ℕ) → all_below s xs → all_below (suc s) xs
more_args s [] b = tt {0}
more_args s (x ∷ xs) b = ((let l = b.0 in omega (arith, l)), more_args s xs b.1)

more_pairs : (s : ℕ) (xs : List (ℕ × ℕ)) → pairs_below s xs → pairs_below (suc s) xs
more_pairs s [] b = tt {0}
more_pairs s (c ∷ cs) b = ((let l = b.0 in omega (arith, l)), (let l = b.1 in omega (arith, l)), more_pairs s cs b.2)

pub renewed_below : (s : ℕ) (effect : Effect) → EffectBelow s effect → EffectBelow (suc s) (renewed s effect)
renewed_below s nothing b = tt {0}
renewed_below s (nulled x) b = omega arith
renewed_below s (moved x y) b = (omega arith, (let l = b.1 in omega (arith, l)))
renewed_below s (fixed x) b = omega arith
renewed_below s (beside x y) b = (omega arith, (let l = b.1 in omega (arith, l)))
renewed_below s (made x) b = omega arith
renewed_below s (under x y) b = (omega arith, (let l = b.1 in omega (arith, l)))
renewed_below s (loaded x y note) b = (omega arith, (let l = b.1 in omega (arith, l)))
renewed_below s (looked_at y) b = omega (arith, b)
renewed_below s (stored z y note) b = ((let l = b.0 in omega (arith, l)), (let l = b.1 in omega (arith, l)))
renewed_below s (present y) b = omega (arith, b)
renewed_below s (absent y) b = omega (arith, b)
renewed_below s (called None g ys) b = (tt {0}, more_args s ys b.1)
renewed_below s (called (Some x) g ys) b = (omega arith, more_args s ys b.1)
renewed_below s (entered pairs) b = more_pairs s pairs b

-- ---- what is dropped

abbrev pub target : Option ℕ → (spare : ℕ) → Fact → Fact
target None s fact = fact
target (Some x) s fact = with_replaced x s fact

module _ (r : Rlang) (t : ℕ → ℕ) where
  module _ (a : Key → Bool) where
    abbrev pub news_at : (g : ℕ) → Routine → Effect → List Fact
    news_at g f effect = news_of (kept f (t g)) (of a).exit (renewed (spare f (t g)) effect)

    abbrev pub behind : (g : ℕ) → Routine → (q : ℕ) → Edge → Fact → Bool
    behind g f q edge fact = not (names (spare f (t g)) fact) && derives (kept f (t g)) (together ((of a).before g q) (news_at g f edge.effect)) (target (assigned edge.effect) (spare f (t g)) fact)

    abbrev pub edge_drops : (g : ℕ) → Routine → (p q : ℕ) → Fact → Edge → Bool
    edge_drops g f p q fact edge = nat_eq edge.to p && not (behind g f q edge fact)

    abbrev pub node_drops : (g : ℕ) → Routine → (p q : ℕ) → Fact → Node → Bool
    node_drops g f p q fact node = some_below (λ e. within (slice_get node.edges e) (edge_drops g f p q fact)) (length node.edges)

    abbrev pub point_drops : (g p : ℕ) → Fact → Routine → Bool
    point_drops g p fact f = some_below (λ q. within (slice_get (routine_nodes f) q) (node_drops g f p q fact)) (length (routine_nodes f)) || (nat_eq p 0 && not (derives (kept f (t g)) ((of a).entry g) fact))

    abbrev pub call_drops : (g : ℕ) → Routine → (q h : ℕ) → Fact → Effect → Bool
    call_drops g f q h fact (called x k arguments) = nat_eq k h && not (derives (kept f (t g)) ((of a).before g q) (fact_with (λ v. get_or arguments v 0) fact))
    call_drops g f q h fact effect = false

    abbrev pub node_calls : (g : ℕ) → Routine → (q h : ℕ) → Fact → Node → Bool
    node_calls g f q h fact node = some_below (λ e. within (slice_get node.edges e) (λ edge. call_drops g f q h fact edge.effect)) (length node.edges)

    abbrev pub entry_drops : (h : ℕ) → Fact → (g : ℕ) → Routine → Bool
    entry_drops h fact g f = some_below (λ q. within (slice_get (routine_nodes f) q) (node_calls g f q h fact)) (length (routine_nodes f))

    abbrev pub return_drops : (g : ℕ) → Routine → (q : ℕ) → Fact → Option ℕ → Bool
    return_drops g f q fact given = not (derives (kept f (t g)) (λ p. (of a).before g q p || returned_facts f (t g) given p) (fact_with (renamed (copies f) (spare f (t g))) fact))

    abbrev pub exit_drops : (g : ℕ) → Fact → Routine → Bool
    exit_drops g fact f = some_below (λ q. within (slice_get (routine_nodes f) q) (λ (node : Node). within node.returns (return_drops g f q fact))) (length (routine_nodes f))

  abbrev pub drops : (Key → Bool) → Key → Bool
  drops a (at_point g p fact) = within (slice_get r.functions g) (point_drops a g p fact)
  drops a (at_entry h fact) = some_below (λ g. within (slice_get r.functions g) (entry_drops a h fact g)) (length r.functions)
  drops a (at_exit g fact) = within (slice_get r.functions g) (exit_drops a g fact)

  -- all facts that an annotation may have
  abbrev pub start : Key → Bool
  start (at_point g p fact) = within (slice_get r.functions g) (λ f. nat_lt p (length (routine_nodes f)) && is_over (spare f (t g)) fact)
  start (at_entry g fact) = not (nat_eq g r.main) && within (slice_get r.functions g) (λ f. is_over (copies f) fact)
  start (at_exit g fact) = within (slice_get r.functions g) (λ f. is_over (suc (copies f)) fact)

  abbrev points_keys : (g : ℕ) → Routine → ℕ → List Key
  points_keys g f zero = []
  points_keys g f (suc n) = map (at_point g n) (facts_over (spare f (t g))) ++ points_keys g f n

  abbrev function_keys : (g : ℕ) → Routine → List Key
  function_keys g f = points_keys g f (length (routine_nodes f)) ++ (map (at_entry g) (facts_over (copies f)) ++ map (at_exit g) (facts_over (suc (copies f))))

  abbrev keys_from : (g : ℕ) → List Routine → List Key
  keys_from g [] = []
  keys_from g (f ∷ fs) = function_keys g f ++ keys_from (suc g) fs

  abbrev pub keys : List Key
  keys = keys_from 0 r.functions

  has_point : (g : ℕ) (f : Routine) (p n : ℕ) (fact : Fact) → p < n → Has fact (facts_over (spare f (t g))) → Has (at_point g p fact) (points_keys g f n)
  has_point g f p zero fact l h = absurd (omega (arith, l))
  has_point g f p (suc n) fact l h = by (nat_eq p n) refl (has_point g f p n fact)
    where
      by : (b : Bool) → nat_eq p n ≡ b → (p < n → Has fact (facts_over (spare f (t g))) → Has (at_point g p fact) (points_keys g f n)) → Has (at_point g p fact) (map (at_point g n) (facts_over (spare f (t g))) ++ points_keys g f n)
      by true e again = has_left (at_point g p fact) (map (at_point g n) (facts_over (spare f (t g)))) (points_keys g f n) (subst (λ m. Has (at_point g m fact) (map (at_point g n) (facts_over (spare f (t g))))) (sym (eqb-true p n e)) (has_mapped (at_point g n) fact (facts_over (spare f (t g))) h))
      by false e again = has_right (at_point g p fact) (map (at_point g n) (facts_over (spare f (t g)))) (points_keys g f n) (again (let d = eqb-false p n e in omega (arith, l, d)) h)

  has_function : (k : Key) (fs : List Routine) (n i : ℕ) (f : Routine) → slice_get fs i ≡ Some f → Has k (function_keys (i + n) f) → Has k (keys_from n fs)
  has_function k [] n zero f is h = absurd cc
  has_function k [] n (suc i) f is h = absurd cc
  has_function k (x ∷ fs) n zero f is h = has_left k (function_keys n x) (keys_from (suc n) fs) (let e : Some x ≡ Some f = is in let same : f ≡ x = cc in subst (λ y. Has k (function_keys n y)) same (subst (λ m. Has k (function_keys m f)) (let z : 0 + n ≡ n = omega arith in z) h))
  has_function k (x ∷ fs) n (suc i) f is h = has_right k (function_keys n x) (keys_from (suc n) fs) (has_function k fs (suc n) i f is (subst (λ m. Has k (function_keys m f)) (let e : suc i + n ≡ i + suc n = omega arith in e) h))

  has_there : (k : Key) (g : ℕ) (f : Routine) → slice_get r.functions g ≡ Some f → Has k (function_keys g f) → Has k keys
  has_there k g f is h = has_function k r.functions 0 g f is (subst (λ m. Has k (function_keys m f)) (let e : g ≡ g + 0 = omega arith in e) h)

  over_has : (n : ℕ) (fact : Fact) → is_over n fact ≡ true → Has fact (facts_over n)
  over_has n fact e = has_fact fact (facts_over n) (all_over fact n ∙ e)

  pub has_key : (k : Key) → start k ≡ true → Has k keys
  has_key (at_point g p fact) e =
      let w = within_some (slice_get r.functions g) (λ f. nat_lt p (length (routine_nodes f)) && is_over (spare f (t g)) fact) e in
      let q = and_parts (nat_lt p (length (routine_nodes w.0))) (is_over (spare w.0 (t g)) fact) w.2 in
      has_there (at_point g p fact) g w.0 w.1 (has_left (at_point g p fact) (points_keys g w.0 (length (routine_nodes w.0))) _ (has_point g w.0 p (length (routine_nodes w.0)) fact (ltb-true p (length (routine_nodes w.0)) q.0) (over_has (spare w.0 (t g)) fact q.1)))
  has_key (at_entry g fact) e =
      let w = within_some (slice_get r.functions g) (λ f. is_over (copies f) fact) (and_parts (not (nat_eq g r.main)) (within (slice_get r.functions g) (λ f. is_over (copies f) fact)) e).1 in
      has_there (at_entry g fact) g w.0 w.1 (has_right (at_entry g fact) (points_keys g w.0 (length (routine_nodes w.0))) _ (has_left (at_entry g fact) (map (at_entry g) (facts_over (copies w.0))) _ (has_mapped (at_entry g) fact (facts_over (copies w.0)) (over_has (copies w.0) fact w.2))))
  has_key (at_exit g fact) e =
      let w = within_some (slice_get r.functions g) (λ f. is_over (suc (copies f)) fact) e in
      has_there (at_exit g fact) g w.0 w.1 (has_right (at_exit g fact) (points_keys g w.0 (length (routine_nodes w.0))) _ (has_right (at_exit g fact) (map (at_entry g) (facts_over (copies w.0))) _ (has_mapped (at_exit g) fact (facts_over (suc (copies w.0))) (over_has (suc (copies w.0)) fact w.2))))
