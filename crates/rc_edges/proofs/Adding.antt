-- The list of what an effect adds has just its facts.
use Rattle.std.proofs.Common.{◌≡◌, ℕ, zero, suc, ◌+◌, ◌<◌, ◌≤◌, Bool, true, false, ◌||◌, ◌&&◌, ◌==◌, nat_eq, nat_lt, IsTrue, List, [], ◌∷◌, ◌++◌, length, Option, Some, None, IfSome, refl, sym, ap, subst, ◌⊎◌, inl, inr, arith}
use Rattle.std.specs.Prelude.{slice_get}
use Rattle.std.specs.List.{All, list_any}
use Rattle.std.proofs.lemmas.List.Elements.{All-nil, All-cons}
use Rattle.std.proofs.lemmas.Bool.{or_cases, or_left, or_right, and_parts, and_from, eqb-true, eq-eqb, lt-ltb, ltb-true}
use Rattle.rc_core.specs.declared.ty.Note.{Note}
use Rattle.rc_core.specs.declared.ty.Note.TheVariants.{Plain, SameRegion, ParentPtr, Traditional}
use Rattle.rc_facts.specs.declared.fact.Fact.{Fact}
use Rattle.rc_facts.specs.declared.fact.Fact.TheVariants.{In, Up, Trad, NonNull}
use Rattle.rc_facts.specs.Facts.{same_fact, is_over}
use Rattle.rc_facts.proofs.Sets.{same_fact-true}
use Rattle.rc_rlang.specs.RegionFlow.{Effect, nothing, nulled, moved, fixed, beside, made, under, loaded, looked_at, stored, present, absent, called, entered, assigned}
use Rattle.rc_annotations.specs.Annotations.{Facts, Annotation, by_note, of_null, some_pair, gained, is_place, place_in, some_below, pair_fact, exit_facts}
use Rattle.rc_edges.specs.Edges.{all_below, pairs_below, EffectBelow, AreNews}
use Rattle.rc_facts.specs.Null.{in_each, null_news}
use Rattle.rc_edges.specs.News.{note_news, pair_news, fact_if, row_news, rows_news, places_of, news_of}
use Rattle.rc_edges.proofs.Renaming.{same_self}

same_swap : (p q : Fact) → same_fact p q ≡ true → same_fact q p ≡ true
same_swap p q e = subst (λ z. same_fact z p ≡ true) (same_fact-true p q e) (same_self p)

-- each of a list
abbrev Each : (Fact → Type 0) → List Fact → Type 0
Each P [] = Unit {0}
Each P (p ∷ ps) = P p × Each P ps

abbrev Has : List Fact → Fact → Type 0
Has ps fact = list_any (λ p. same_fact p fact) ps ≡ true

each_over : (n : ℕ) (P : Fact → Type 0) (ps : List Fact) → Each (λ p. (is_over n p ≡ true) × P p) ps → All (λ p. IsTrue (is_over n p)) ps
each_over n P [] e = All-nil (λ p. IsTrue (is_over n p))
each_over n P (p ∷ ps) e = All-cons (λ p. IsTrue (is_over n p)) p ps e.0.0 (each_over n P ps e.1)

each_sound : (n : ℕ) (G : Facts) (ps : List Fact) → Each (λ p. (is_over n p ≡ true) × (G p ≡ true)) ps → (fact : Fact) → Has ps fact → G fact ≡ true
each_sound n G [] e fact h = cc
each_sound n G (p ∷ ps) e fact h = elim (or_cases (same_fact p fact) (list_any (λ q. same_fact q fact) ps) h) [
  | inl s ↦ subst (λ q. G q ≡ true) (same_fact-true p fact s) e.0.1
  | inr r ↦ each_sound n G ps e.1 fact r
]

first : (p : Fact) (ps : List Fact) (fact : Fact) → same_fact fact p ≡ true → Has (p ∷ ps) fact
first p ps fact s = or_left (same_fact p fact) (list_any (λ q. same_fact q fact) ps) (same_swap fact p s)

later : (p : Fact) (ps : List Fact) (fact : Fact) → Has ps fact → Has (p ∷ ps) fact
later p ps fact h = or_right (same_fact p fact) (list_any (λ q. same_fact q fact) ps) h

either : {P : Type 0} (x y : Bool) → (x ≡ true → P) → (y ≡ true → P) → (x || y) ≡ true → P
either x y h k e = elim (or_cases x y e) [ inl p ↦ h p | inr q ↦ k q ]

two_over : (n x y : ℕ) → x < n → y < n → (nat_lt x n && nat_lt y n) ≡ true
two_over n x y l m = and_from (nat_lt x n) (nat_lt y n) (lt-ltb x n l) (lt-ltb y n m)

-- null

each_in : (n k x : ℕ) → k ≤ n → x < n → Each (λ p. (is_over n p ≡ true) × (of_null x p ≡ true)) (in_each k x)
each_in n zero x le l = tt {0}
each_in n (suc k) x le l = ((two_over n x k l (omega (arith, le)), eq-eqb x x refl), each_in n k x (omega (arith, le)) l)

has_in : (k x v : ℕ) → v < k → Has (in_each k x) (In x v)
has_in zero x v l = absurd (omega (arith, l))
has_in (suc k) x v l = by (nat_eq v k) refl (λ lt. has_in k x v lt)
  where
    by : (b : Bool) → nat_eq v k ≡ b → (v < k → Has (in_each k x) (In x v)) → Has (in_each (suc k) x) (In x v)
    by true e again = first (In x k) (in_each k x) (In x v) (and_from (x == x) (v == k) (eq-eqb x x refl) e)
    by false e again = later (In x k) (in_each k x) (In x v) (again (under (order v k)))
      where
        order : (a b : ℕ) → (a < b) ⊎ ((a ≡ b) ⊎ (b < a))
        order a b = grind arith

        not_both : {P : Type 0} (b : Bool) → b ≡ true → b ≡ false → P
        not_both true e d = cc
        not_both false e d = cc

        under : (v < k) ⊎ ((v ≡ k) ⊎ (k < v)) → v < k
        under (inl y) = y
        under (inr (inl y)) = not_both (nat_eq v k) (eq-eqb v k y) e
        under (inr (inr y)) = absurd (omega (arith, l, y))

null_each : (n x : ℕ) → x < n → Each (λ p. (is_over n p ≡ true) × (of_null x p ≡ true)) (null_news n x)
null_each n x l = ((lt-ltb x n l, eq-eqb x x refl), each_in n n x (omega arith) l)

null_has : (n x : ℕ) (fact : Fact) → is_over n fact ≡ true → of_null x fact ≡ true → Has (null_news n x) fact
null_has n x (In u v) o e =
    let both = and_parts (nat_lt u n) (nat_lt v n) o in
    later (Trad x) (in_each n x) (In u v) (subst (λ z. Has (in_each n x) (In z v)) (sym (eqb-true u x e)) (has_in n x v (ltb-true v n both.1)))
null_has n x (Up u v) o e = cc
null_has n x (Trad u) o e = first (Trad x) (in_each n x) (Trad u) e
null_has n x (NonNull u) o e = cc

-- notes and pairs

note_each : (n : ℕ) (note : Note) (value holder : ℕ) → value < n → holder < n → Each (λ p. (is_over n p ≡ true) × (by_note note value holder p ≡ true)) (note_news note value holder)
note_each n Plain v h l m = tt {0}
note_each n SameRegion v h l m = ((two_over n v h l m, same_self (In v h)), tt {0})
note_each n ParentPtr v h l m = ((two_over n v h l m, same_self (Up v h)), tt {0})
note_each n Traditional v h l m = ((lt-ltb v n l, same_self (Trad v)), tt {0})

note_has : (note : Note) (value holder : ℕ) (fact : Fact) → by_note note value holder fact ≡ true → Has (note_news note value holder) fact
note_has Plain v h fact e = cc
note_has SameRegion v h fact e = first (In v h) [] fact e
note_has ParentPtr v h fact e = first (Up v h) [] fact e
note_has Traditional v h fact e = first (Trad v) [] fact e

each_more : (P Q : Fact → Type 0) → ((p : Fact) → P p → Q p) → (ps : List Fact) → Each P ps → Each Q ps
each_more P Q h [] e = tt {0}
each_more P Q h (p ∷ ps) e = (h p e.0, each_more P Q h ps e.1)

widen : (n : ℕ) (G H : Facts) → ((p : Fact) → G p ≡ true → H p ≡ true) → (ps : List Fact) → Each (λ p. (is_over n p ≡ true) × (G p ≡ true)) ps → Each (λ p. (is_over n p ≡ true) × (H p ≡ true)) ps
widen n G H h ps e = each_more (λ p. (is_over n p ≡ true) × (G p ≡ true)) (λ p. (is_over n p ≡ true) × (H p ≡ true)) (λ p q. (q.0, h p q.1)) ps e

pairs_each : (n : ℕ) (cs : List (ℕ × ℕ)) → pairs_below n cs → Each (λ p. (is_over n p ≡ true) × (some_pair cs p ≡ true)) (pair_news cs)
pairs_each n [] b = tt {0}
pairs_each n (c ∷ cs) b = (
  (two_over n c.0 c.1 b.0 b.1, or_left _ _ (same_self (In c.0 c.1))),
  (
    (two_over n c.1 c.0 b.1 b.0, or_right (same_fact (In c.1 c.0) (In c.0 c.1)) _ (or_left _ _ (same_self (In c.1 c.0)))),
    widen n (some_pair cs) (some_pair (c ∷ cs)) (λ p e. or_right (same_fact p (In c.0 c.1)) _ (or_right (same_fact p (In c.1 c.0)) (some_pair cs p) e)) (pair_news cs) (pairs_each n cs b.2),
  ),
)

pairs_has : (cs : List (ℕ × ℕ)) (fact : Fact) → some_pair cs fact ≡ true → Has (pair_news cs) fact
pairs_has [] fact e = cc
pairs_has (c ∷ cs) fact e = either (same_fact fact (In c.0 c.1)) _ (λ s. first (In c.0 c.1) (In c.1 c.0 ∷ pair_news cs) fact s)
    (λ r. later (In c.0 c.1) (In c.1 c.0 ∷ pair_news cs) fact (either (same_fact fact (In c.1 c.0)) (some_pair cs fact) (λ s. first (In c.1 c.0) (pair_news cs) fact s) (λ t. later (In c.1 c.0) (pair_news cs) fact (pairs_has cs fact t)) r)) e

-- what a call learns

place_is : (arguments : List ℕ) (x : Option ℕ) (i u : ℕ) → is_place (place_in arguments x i) u ≡ true → (slice_get (places_of arguments x) i ≡ Some u) × (i < suc (length arguments))
place_is [] None i u e = cc
place_is [] (Some y) zero u e = (ap Some (eqb-true y u e), omega arith)
place_is [] (Some y) (suc i) u e = cc
place_is (y ∷ ys) x zero u e = (ap Some (eqb-true y u e), omega arith)
place_is (y ∷ ys) x (suc i) u e = let h = place_is ys x i u e in (h.0, let l = h.1 in omega (arith, l))

is_there : (arguments : List ℕ) (x : Option ℕ) (i u : ℕ) → slice_get (places_of arguments x) i ≡ Some u → (is_place (place_in arguments x i) u ≡ true) × (i < suc (length arguments))
is_there [] None i u e = cc
is_there [] (Some y) zero u e = (let q : y ≡ u = cc in eq-eqb y u q, omega arith)
is_there [] (Some y) (suc i) u e = cc
is_there (y ∷ ys) x zero u e = (let q : y ≡ u = cc in eq-eqb y u q, omega arith)
is_there (y ∷ ys) x (suc i) u e = let h = is_there ys x i u e in (h.0, let l = h.1 in omega (arith, l))

some_at : (test : ℕ → Bool) (m i : ℕ) → i < m → test i ≡ true → some_below test m ≡ true
some_at test zero i l e = absurd (omega (arith, l))
some_at test (suc m) i l e = by (nat_eq i m) refl (λ lt. some_at test m i lt e)
  where
    order : (a b : ℕ) → (a < b) ⊎ ((a ≡ b) ⊎ (b < a))
    order a b = grind arith

    not_both : {P : Type 0} (b : Bool) → b ≡ true → b ≡ false → P
    not_both true e d = cc
    not_both false e d = cc

    by : (b : Bool) → nat_eq i m ≡ b → (i < m → some_below test m ≡ true) → (test m || some_below test m) ≡ true
    by true q again = or_left (test m) (some_below test m) (subst (λ j. test j ≡ true) (eqb-true i m q) e)
    by false q again = or_right (test m) (some_below test m) (again (under (order i m)))
      where
        under : (i < m) ⊎ ((i ≡ m) ⊎ (m < i)) → i < m
        under (inl y) = y
        under (inr (inl y)) = not_both (nat_eq i m) (eq-eqb i m y) q
        under (inr (inr y)) = absurd (omega (arith, l, y))

record Below (test : ℕ → Bool) (m : ℕ) : Type 0 where
  at : ℕ
  is : test at ≡ true

which : (test : ℕ → Bool) (m : ℕ) → some_below test m ≡ true → Below test m
which test zero e = cc
which test (suc m) e = elim (or_cases (test m) (some_below test m) e) [
  | inl x ↦ record { at = m; is = x }
  | inr y ↦ let w = which test m y in record { at = w.at; is = w.is }
]

module _ (a : Annotation) (g : ℕ) (arguments : List ℕ) (x : Option ℕ) where
  abbrev places : List ℕ
  places = places_of arguments x

  abbrev learnt : Facts
  learnt = exit_facts a g arguments x

  abbrev tests : Fact → ℕ → ℕ → Bool
  tests fact i = pair_fact (a.exit g) arguments x fact i

  found : (fact : Fact) (i j : ℕ) → i < suc (length arguments) → j < suc (length arguments) → tests fact i j ≡ true → learnt fact ≡ true
  found fact i j l m e = some_at (λ k. some_below (tests fact k) (suc (length arguments))) (suc (length arguments)) i l (some_at (tests fact i) (suc (length arguments)) j m e)

  in_learnt : (i j u v : ℕ) → slice_get places i ≡ Some u → slice_get places j ≡ Some v → a.exit g (In i j) ≡ true → learnt (In u v) ≡ true
  in_learnt i j u v p q e = let s = is_there arguments x i u p in let t = is_there arguments x j v q in found (In u v) i j s.1 t.1 (and_from _ _ s.0 (and_from _ _ t.0 e))

  up_learnt : (i j u v : ℕ) → slice_get places i ≡ Some u → slice_get places j ≡ Some v → a.exit g (Up i j) ≡ true → learnt (Up u v) ≡ true
  up_learnt i j u v p q e = let s = is_there arguments x i u p in let t = is_there arguments x j v q in found (Up u v) i j s.1 t.1 (and_from _ _ s.0 (and_from _ _ t.0 e))

  trad_learnt : (i u : ℕ) → slice_get places i ≡ Some u → a.exit g (Trad i) ≡ true → learnt (Trad u) ≡ true
  trad_learnt i u p e = let s = is_there arguments x i u p in found (Trad u) i i s.1 s.1 (and_from _ _ s.0 e)

  present_learnt : (i u : ℕ) → slice_get places i ≡ Some u → a.exit g (NonNull i) ≡ true → learnt (NonNull u) ≡ true
  present_learnt i u p e = let s = is_there arguments x i u p in found (NonNull u) i i s.1 s.1 (and_from _ _ s.0 e)

  module _ (n : ℕ) where
    abbrev Good : Fact → Type 0
    Good p = (is_over n p ≡ true) × (learnt p ≡ true)

    if_each : (b : Bool) (p : Fact) (rest : List Fact) → (b ≡ true → Good p) → Each Good rest → Each Good (fact_if b p rest)
    if_each true p rest h e = (h refl, e)
    if_each false p rest h e = e

    both_each : (ps qs : List Fact) → Each Good ps → Each Good qs → Each Good (ps ++ qs)
    both_each [] qs e d = d
    both_each (p ∷ ps) qs e d = (e.0, both_each ps qs e.1 d)

    -- the places from j on are those of a list
    abbrev From : ℕ → List ℕ → Type 0
    From j vs = (k v : ℕ) → slice_get vs k ≡ Some v → slice_get places (j + k) ≡ Some v

    next_from : (j v : ℕ) (vs : List ℕ) → From j (v ∷ vs) → From (suc j) vs
    next_from j v vs h k w e = subst (λ i. slice_get places i ≡ Some w) (let s : j + suc k ≡ suc j + k = omega arith in s) (h (suc k) w e)

    here_from : (j v : ℕ) (vs : List ℕ) → From j (v ∷ vs) → slice_get places j ≡ Some v
    here_from j v vs h = subst (λ i. slice_get places i ≡ Some v) (let s : j + 0 ≡ j = omega arith in s) (h 0 v refl)

    row_each : (i u : ℕ) (vs : List ℕ) (j : ℕ) → u < n → all_below n vs → slice_get places i ≡ Some u → From j vs → Each Good (row_news (a.exit g) i u vs j)
    row_each i u [] j l b p h = tt {0}
    row_each i u (v ∷ vs) j l b p h =
        let q = here_from j v vs h in
        if_each (a.exit g (In i j)) (In u v) _ (λ e. (two_over n u v l b.0, in_learnt i j u v p q e))
        (if_each (a.exit g (Up i j)) (Up u v) (row_news (a.exit g) i u vs (suc j)) (λ e. (two_over n u v l b.0, up_learnt i j u v p q e)) (row_each i u vs (suc j) l b.1 p (next_from j v vs h)))

    rows_each : (us : List ℕ) (i : ℕ) → all_below n us → all_below n places → From i us → Each Good (rows_news (a.exit g) places us i)
    rows_each [] i b w h = tt {0}
    rows_each (u ∷ us) i b w h =
        let p = here_from i u us h in
        if_each (a.exit g (Trad i)) (Trad u) _ (λ e. (lt-ltb u n b.0, trad_learnt i u p e))
        (if_each (a.exit g (NonNull i)) (NonNull u) _ (λ e. (lt-ltb u n b.0, present_learnt i u p e))
        (both_each (row_news (a.exit g) i u places 0) (rows_news (a.exit g) places us (suc i))
        (row_each i u places 0 b.0 w p (λ k v e. subst (λ j. slice_get places j ≡ Some v) (let s : k ≡ 0 + k = omega arith in s) e))
        (rows_each us (suc i) b.1 w (next_from i u us h))))

  -- each that is learnt is listed

  if_here : (b : Bool) (p : Fact) (rest : List Fact) → b ≡ true → Has (fact_if b p rest) p
  if_here true p rest e = first p rest p (same_self p)
  if_here false p rest e = cc

  if_later : (b : Bool) (p : Fact) (rest : List Fact) (fact : Fact) → Has rest fact → Has (fact_if b p rest) fact
  if_later true p rest fact h = later p rest fact h
  if_later false p rest fact h = h

  left_has : (ps qs : List Fact) (fact : Fact) → Has ps fact → Has (ps ++ qs) fact
  left_has [] qs fact h = cc
  left_has (p ∷ ps) qs fact h = either (same_fact p fact) (list_any (λ q. same_fact q fact) ps) (λ s. or_left (same_fact p fact) _ s) (λ r. later p (ps ++ qs) fact (left_has ps qs fact r)) h

  right_has : (ps qs : List Fact) (fact : Fact) → Has qs fact → Has (ps ++ qs) fact
  right_has [] qs fact h = h
  right_has (p ∷ ps) qs fact h = later p (ps ++ qs) fact (right_has ps qs fact h)

  in_row : (i u v : ℕ) (vs : List ℕ) (j k : ℕ) → slice_get vs k ≡ Some v → a.exit g (In i (j + k)) ≡ true → Has (row_news (a.exit g) i u vs j) (In u v)
  in_row i u v [] j k p e = cc
  in_row i u v (w ∷ vs) j zero p e =
      let q : w ≡ v = cc in
      subst (λ z. Has (row_news (a.exit g) i u (z ∷ vs) j) (In u v)) (sym q) (if_here (a.exit g (In i j)) (In u v) _ (subst (λ m. a.exit g (In i m) ≡ true) (let s : j + 0 ≡ j = omega arith in s) e))
  in_row i u v (w ∷ vs) j (suc k) p e = if_later (a.exit g (In i j)) (In u w) _ (In u v) (if_later (a.exit g (Up i j)) (Up u w) (row_news (a.exit g) i u vs (suc j)) (In u v)
      (in_row i u v vs (suc j) k p (subst (λ m. a.exit g (In i m) ≡ true) (let s : j + suc k ≡ suc j + k = omega arith in s) e)))

  up_row : (i u v : ℕ) (vs : List ℕ) (j k : ℕ) → slice_get vs k ≡ Some v → a.exit g (Up i (j + k)) ≡ true → Has (row_news (a.exit g) i u vs j) (Up u v)
  up_row i u v [] j k p e = cc
  up_row i u v (w ∷ vs) j zero p e =
      let q : w ≡ v = cc in
      subst (λ z. Has (row_news (a.exit g) i u (z ∷ vs) j) (Up u v)) (sym q) (if_later (a.exit g (In i j)) (In u v) _ (Up u v) (if_here (a.exit g (Up i j)) (Up u v) (row_news (a.exit g) i u vs (suc j)) (subst (λ m. a.exit g (Up i m) ≡ true) (let s : j + 0 ≡ j = omega arith in s) e)))
  up_row i u v (w ∷ vs) j (suc k) p e = if_later (a.exit g (In i j)) (In u w) _ (Up u v) (if_later (a.exit g (Up i j)) (Up u w) (row_news (a.exit g) i u vs (suc j)) (Up u v)
      (up_row i u v vs (suc j) k p (subst (λ m. a.exit g (Up i m) ≡ true) (let s : j + suc k ≡ suc j + k = omega arith in s) e)))

  -- what stands in the row of a place stands among all rows
  in_rows : (fact : Fact) (u : ℕ) (us : List ℕ) (i k : ℕ) → slice_get us k ≡ Some u → Has (row_news (a.exit g) (i + k) u places 0) fact → Has (rows_news (a.exit g) places us i) fact
  in_rows fact u [] i k p h = cc
  in_rows fact u (w ∷ us) i zero p h =
      let q : w ≡ u = cc in
      if_later (a.exit g (Trad i)) (Trad w) _ fact (if_later (a.exit g (NonNull i)) (NonNull w) _ fact (left_has (row_news (a.exit g) i w places 0) (rows_news (a.exit g) places us (suc i)) fact
      (subst (λ z. Has (row_news (a.exit g) i z places 0) fact) (sym q) (subst (λ m. Has (row_news (a.exit g) m u places 0) fact) (let s : i + 0 ≡ i = omega arith in s) h))))
  in_rows fact u (w ∷ us) i (suc k) p h = if_later (a.exit g (Trad i)) (Trad w) _ fact (if_later (a.exit g (NonNull i)) (NonNull w) _ fact (right_has (row_news (a.exit g) i w places 0) (rows_news (a.exit g) places us (suc i)) fact
      (in_rows fact u us (suc i) k p (subst (λ m. Has (row_news (a.exit g) m u places 0) fact) (let s : i + suc k ≡ suc i + k = omega arith in s) h))))

  trad_rows : (u : ℕ) (us : List ℕ) (i k : ℕ) → slice_get us k ≡ Some u → a.exit g (Trad (i + k)) ≡ true → Has (rows_news (a.exit g) places us i) (Trad u)
  trad_rows u [] i k p e = cc
  trad_rows u (w ∷ us) i zero p e =
      let q : w ≡ u = cc in
      subst (λ z. Has (rows_news (a.exit g) places (z ∷ us) i) (Trad u)) (sym q) (if_here (a.exit g (Trad i)) (Trad u) _ (subst (λ m. a.exit g (Trad m) ≡ true) (let s : i + 0 ≡ i = omega arith in s) e))
  trad_rows u (w ∷ us) i (suc k) p e = if_later (a.exit g (Trad i)) (Trad w) _ (Trad u) (if_later (a.exit g (NonNull i)) (NonNull w) _ (Trad u) (right_has (row_news (a.exit g) i w places 0) (rows_news (a.exit g) places us (suc i)) (Trad u)
      (trad_rows u us (suc i) k p (subst (λ m. a.exit g (Trad m) ≡ true) (let s : i + suc k ≡ suc i + k = omega arith in s) e))))

  present_rows : (u : ℕ) (us : List ℕ) (i k : ℕ) → slice_get us k ≡ Some u → a.exit g (NonNull (i + k)) ≡ true → Has (rows_news (a.exit g) places us i) (NonNull u)
  present_rows u [] i k p e = cc
  present_rows u (w ∷ us) i zero p e =
      let q : w ≡ u = cc in
      subst (λ z. Has (rows_news (a.exit g) places (z ∷ us) i) (NonNull u)) (sym q) (if_later (a.exit g (Trad i)) (Trad u) _ (NonNull u) (if_here (a.exit g (NonNull i)) (NonNull u) _ (subst (λ m. a.exit g (NonNull m) ≡ true) (let s : i + 0 ≡ i = omega arith in s) e)))
  present_rows u (w ∷ us) i (suc k) p e = if_later (a.exit g (Trad i)) (Trad w) _ (NonNull u) (if_later (a.exit g (NonNull i)) (NonNull w) _ (NonNull u) (right_has (row_news (a.exit g) i w places 0) (rows_news (a.exit g) places us (suc i)) (NonNull u)
      (present_rows u us (suc i) k p (subst (λ m. a.exit g (NonNull m) ≡ true) (let s : i + suc k ≡ suc i + k = omega arith in s) e))))

  from_zero : (P : ℕ → Type 0) (i : ℕ) → P i → P (0 + i)
  from_zero P i p = subst P (let s : i ≡ 0 + i = omega arith in s) p

  learnt_has : (fact : Fact) → learnt fact ≡ true → Has (rows_news (a.exit g) places places 0) fact
  learnt_has fact e =
      let w = which (λ i. some_below (tests fact i) (suc (length arguments))) (suc (length arguments)) e in
      let z = which (tests fact w.at) (suc (length arguments)) w.is in
      by fact w.at z.at z.is
    where
      by : (fact : Fact) (i j : ℕ) → tests fact i j ≡ true → Has (rows_news (a.exit g) places places 0) fact
      by (In u v) i j e =
          let s = and_parts (is_place (place_in arguments x i) u) _ e in
          let t = and_parts (is_place (place_in arguments x j) v) _ s.1 in
          in_rows (In u v) u places 0 i (place_is arguments x i u s.0).0 (from_zero (λ k. Has (row_news (a.exit g) k u places 0) (In u v)) i (in_row i u v places 0 j (place_is arguments x j v t.0).0 (from_zero (λ k. a.exit g (In i k) ≡ true) j t.1)))
      by (Up u v) i j e =
          let s = and_parts (is_place (place_in arguments x i) u) _ e in
          let t = and_parts (is_place (place_in arguments x j) v) _ s.1 in
          in_rows (Up u v) u places 0 i (place_is arguments x i u s.0).0 (from_zero (λ k. Has (row_news (a.exit g) k u places 0) (Up u v)) i (up_row i u v places 0 j (place_is arguments x j v t.0).0 (from_zero (λ k. a.exit g (Up i k) ≡ true) j t.1)))
      by (Trad u) i j e = let s = and_parts (is_place (place_in arguments x i) u) _ e in trad_rows u places 0 i (place_is arguments x i u s.0).0 (from_zero (λ k. a.exit g (Trad k) ≡ true) i s.1)
      by (NonNull u) i j e = let s = and_parts (is_place (place_in arguments x i) u) _ e in present_rows u places 0 i (place_is arguments x i u s.0).0 (from_zero (λ k. a.exit g (NonNull k) ≡ true) i s.1)

places_below : (n : ℕ) (arguments : List ℕ) (x : Option ℕ) → all_below n arguments → IfSome x (λ v. v < n) → all_below n (places_of arguments x)
places_below n [] None b l = tt {0}
places_below n [] (Some y) b l = (l, tt {0})
places_below n (y ∷ ys) x b l = (b.0, places_below n ys x b.1 l)

-- of each effect on n variables
module _ (n : ℕ) (a : Annotation) where
  abbrev Listed : Effect → List Fact → Type 0
  Listed effect news = Each (λ p. (is_over n p ≡ true) × (gained (exit_facts a) effect p ≡ true)) news

  news_each : (effect : Effect) → EffectBelow n effect → Listed effect (news_of n a.exit effect)
  news_each nothing b = tt {0}
  news_each (nulled x) b = null_each n x b
  news_each (moved x y) b = ((two_over n x y b.0 b.1, or_left _ _ (same_self (In x y))), ((two_over n y x b.1 b.0, or_right (same_fact (In y x) (In x y)) _ (same_self (In y x))), tt {0}))
  news_each (fixed x) b = ((lt-ltb x n b, or_left _ _ (same_self (Trad x))), ((lt-ltb x n b, or_right (same_fact (NonNull x) (Trad x)) _ (same_self (NonNull x))), tt {0}))
  news_each (beside x y) b = (
    (lt-ltb y n b.1, or_left _ _ (same_self (NonNull y))),
    ((lt-ltb x n b.0, or_right (same_fact (NonNull x) (NonNull y)) _ (or_left _ _ (same_self (NonNull x)))), ((two_over n x y b.0 b.1, or_right (same_fact (In x y) (NonNull y)) _ (or_right (same_fact (In x y) (NonNull x)) _ (same_self (In x y)))), tt {0})),
  )
  news_each (made x) b = ((lt-ltb x n b, same_self (NonNull x)), tt {0})
  news_each (under x y) b = (
    (lt-ltb y n b.1, or_left _ _ (same_self (NonNull y))),
    ((lt-ltb x n b.0, or_right (same_fact (NonNull x) (NonNull y)) _ (or_left _ _ (same_self (NonNull x)))), ((two_over n y x b.1 b.0, or_right (same_fact (Up y x) (NonNull y)) _ (or_right (same_fact (Up y x) (NonNull x)) _ (same_self (Up y x)))), tt {0})),
  )
  news_each (loaded x y note) b = (
    (lt-ltb y n b.1, or_left _ _ (same_self (NonNull y))),
    widen n (by_note note x y) (gained (exit_facts a) (loaded x y note)) (λ p e. or_right (same_fact p (NonNull y)) (by_note note x y p) e) (note_news note x y) (note_each n note x y b.0 b.1),
  )
  news_each (looked_at y) b = ((lt-ltb y n b, same_self (NonNull y)), tt {0})
  news_each (stored z y note) b = (
    (lt-ltb y n b.1, or_left _ _ (same_self (NonNull y))),
    widen n (by_note note z y) (gained (exit_facts a) (stored z y note)) (λ p e. or_right (same_fact p (NonNull y)) (by_note note z y p) e) (note_news note z y) (note_each n note z y b.0 b.1),
  )
  news_each (present y) b = ((lt-ltb y n b, same_self (NonNull y)), tt {0})
  news_each (absent y) b = null_each n y b
  news_each (called x g arguments) b = rows_each a g arguments x n (places_of arguments x) 0 (places_below n arguments x b.1 b.0) (places_below n arguments x b.1 b.0) (λ k v e. subst (λ j. slice_get (places_of arguments x) j ≡ Some v) (let s : k ≡ 0 + k = omega arith in s) e)
  news_each (entered pairs) b = pairs_each n pairs b

  news_has : (effect : Effect) (fact : Fact) → is_over n fact ≡ true → gained (exit_facts a) effect fact ≡ true → Has (news_of n a.exit effect) fact
  news_has nothing fact o e = cc
  news_has (nulled x) fact o e = null_has n x fact o e
  news_has (moved x y) fact o e = either (same_fact fact (In x y)) _ (λ s. first (In x y) (In y x ∷ []) fact s) (λ s. later (In x y) (In y x ∷ []) fact (first (In y x) [] fact s)) e
  news_has (fixed x) fact o e = either (same_fact fact (Trad x)) _ (λ s. first (Trad x) (NonNull x ∷ []) fact s) (λ s. later (Trad x) (NonNull x ∷ []) fact (first (NonNull x) [] fact s)) e
  news_has (beside x y) fact o e = either (same_fact fact (NonNull y)) _ (λ s. first (NonNull y) (NonNull x ∷ In x y ∷ []) fact s)
      (λ r. later (NonNull y) (NonNull x ∷ In x y ∷ []) fact (either (same_fact fact (NonNull x)) _ (λ s. first (NonNull x) (In x y ∷ []) fact s) (λ s. later (NonNull x) (In x y ∷ []) fact (first (In x y) [] fact s)) r)) e
  news_has (made x) fact o e = first (NonNull x) [] fact e
  news_has (under x y) fact o e = either (same_fact fact (NonNull y)) _ (λ s. first (NonNull y) (NonNull x ∷ Up y x ∷ []) fact s)
      (λ r. later (NonNull y) (NonNull x ∷ Up y x ∷ []) fact (either (same_fact fact (NonNull x)) _ (λ s. first (NonNull x) (Up y x ∷ []) fact s) (λ s. later (NonNull x) (Up y x ∷ []) fact (first (Up y x) [] fact s)) r)) e
  news_has (loaded x y note) fact o e = either (same_fact fact (NonNull y)) _ (λ s. first (NonNull y) (note_news note x y) fact s) (λ r. later (NonNull y) (note_news note x y) fact (note_has note x y fact r)) e
  news_has (looked_at y) fact o e = first (NonNull y) [] fact e
  news_has (stored z y note) fact o e = either (same_fact fact (NonNull y)) _ (λ s. first (NonNull y) (note_news note z y) fact s) (λ r. later (NonNull y) (note_news note z y) fact (note_has note z y fact r)) e
  news_has (present y) fact o e = first (NonNull y) [] fact e
  news_has (absent y) fact o e = null_has n y fact o e
  news_has (called x g arguments) fact o e = learnt_has a g arguments x fact e
  news_has (entered pairs) fact o e = pairs_has pairs fact e

  pub news_are : (effect : Effect) → EffectBelow n effect → AreNews n (exit_facts a) effect (news_of n a.exit effect)
  news_are effect b = record {
    over = each_over n (λ p. gained (exit_facts a) effect p ≡ true) (news_of n a.exit effect) (news_each effect b);
    sound = each_sound n (gained (exit_facts a) effect) (news_of n a.exit effect) (news_each effect b);
    whole = news_has effect;
  }

pub assigned_below : (s : ℕ) (effect : Effect) → EffectBelow s effect → IfSome (assigned effect) (λ x. x < s)
assigned_below s nothing b = tt {0}
assigned_below s (nulled x) b = b
assigned_below s (moved x y) b = b.0
assigned_below s (fixed x) b = b
assigned_below s (beside x y) b = b.0
assigned_below s (made x) b = b
assigned_below s (under x y) b = b.0
assigned_below s (loaded x y note) b = b.0
assigned_below s (looked_at y) b = tt {0}
assigned_below s (stored z y note) b = tt {0}
assigned_below s (present y) b = tt {0}
assigned_below s (absent y) b = tt {0}
assigned_below s (called x g ys) b = b.0
assigned_below s (entered pairs) b = tt {0}
