-- Which facts the rows of claims list.
use Rattle.std.proofs.Common.{◌≡◌, ◌∙◌, ◌⊎◌, inl, inr, ℕ, zero, suc, ◌+◌, ◌<◌, Bool, true, false, ◌&&◌, IsTrue, List, [], ◌∷◌, ◌++◌, length, get_or, ◌↔◌, refl, sym, ap, subst, arith, nat_eq, nat_lt}
use Rattle.std.proofs.lemmas.Bool.{or_cases, or_left, or_right, and_parts, and_from, ltb-true, lt-ltb}
use Rattle.std.proofs.lemmas.List.Folds.{list_any-append}
use Rattle.rc_facts.specs.declared.fact.Fact.{Fact}
use Rattle.rc_facts.specs.declared.fact.Fact.TheVariants.{In, Up, Trad, NonNull}
use Rattle.rc_facts.specs.Facts.{is_over, same_fact}
use Rattle.rc_annotations.specs.Annotations.{fact_with}
use Rattle.rc_annotations.proofs.Effects.{same_facts}
use Rattle.rc_edges.specs.News.{fact_if, row_news, rows_news}
use Rattle.rc_image_claims.specs.Naming.{is_listed, Named}

-- ---- lists

self_eq : (x : ℕ) → IsTrue (nat_eq x x)
self_eq x = grind arith

same_self : (fact : Fact) → IsTrue (same_fact fact fact)
same_self (In x y) = and_from _ _ (self_eq x) (self_eq y)
same_self (Up x y) = and_from _ _ (self_eq x) (self_eq y)
same_self (Trad x) = self_eq x
same_self (NonNull x) = self_eq x

both_listed : (ps qs : List Fact) (fact : Fact) → IsTrue (is_listed (ps ++ qs) fact) → IsTrue (is_listed ps fact) ⊎ IsTrue (is_listed qs fact)
both_listed ps qs fact e = or_cases (is_listed ps fact) (is_listed qs fact) (sym (list_any-append (λ q. same_fact q fact) ps qs) ∙ e)

pub left_listed : (ps qs : List Fact) (fact : Fact) → IsTrue (is_listed ps fact) → IsTrue (is_listed (ps ++ qs) fact)
left_listed ps qs fact e = list_any-append (λ q. same_fact q fact) ps qs ∙ or_left (is_listed ps fact) (is_listed qs fact) e

pub right_listed : (ps qs : List Fact) (fact : Fact) → IsTrue (is_listed qs fact) → IsTrue (is_listed (ps ++ qs) fact)
right_listed ps qs fact e = list_any-append (λ q. same_fact q fact) ps qs ∙ or_right (is_listed ps fact) (is_listed qs fact) e

-- of a fact that is there if so
if_listed : (b : Bool) (p : Fact) (rest : List Fact) (fact : Fact) → IsTrue (is_listed (fact_if b p rest) fact) → (IsTrue b × (p ≡ fact)) ⊎ IsTrue (is_listed rest fact)
if_listed false p rest fact e = inr e
if_listed true p rest fact e = by (or_cases (same_fact p fact) (is_listed rest fact) e)
  where
    by : IsTrue (same_fact p fact) ⊎ IsTrue (is_listed rest fact) → (IsTrue true × (p ≡ fact)) ⊎ IsTrue (is_listed rest fact)
    by (inl s) = inl (refl, same_facts p fact s)
    by (inr r) = inr r

if_here : (b : Bool) (p : Fact) (rest : List Fact) → IsTrue b → IsTrue (is_listed (fact_if b p rest) p)
if_here true p rest e = or_left (same_fact p p) (is_listed rest p) (same_self p)
if_here false p rest e = cc

if_later : (b : Bool) (p : Fact) (rest : List Fact) (fact : Fact) → IsTrue (is_listed rest fact) → IsTrue (is_listed (fact_if b p rest) fact)
if_later true p rest fact e = or_right (same_fact p fact) (is_listed rest fact) e
if_later false p rest fact e = e

-- ---- names

-- the names from a number on
record From (all : List ℕ) (j : ℕ) (rest : List ℕ) : Type 0 where
  pub each : (k : ℕ) → k < length rest → get_or rest k 0 ≡ get_or all (j + k) 0
  pub long : j + length rest ≡ length all

module _ (facts : Fact → Bool) (all : List ℕ) where
  next : (j x : ℕ) (rest : List ℕ) → From all j (x ∷ rest) → From all (suc j) rest
  next j x rest f = record {
    each = λ k lt. f.each (suc k) (omega (arith, lt)) ∙ ap (λ i. get_or all i 0) (let e : j + suc k ≡ suc j + k = omega arith in e);
    long = (let l = f.long in omega (arith, l));
  }

  here : (j x : ℕ) (rest : List ℕ) → From all j (x ∷ rest) → x ≡ get_or all j 0
  here j x rest f = f.each 0 (omega arith) ∙ ap (λ i. get_or all i 0) (let e : j + 0 ≡ j = omega arith in e)

  inside : (j x : ℕ) (rest : List ℕ) → From all j (x ∷ rest) → j < length all
  inside j x rest f = let l = f.long in omega (arith, l)

  over_two : (i j : ℕ) → i < length all → j < length all → IsTrue (nat_lt i (length all) && nat_lt j (length all))
  over_two i j l m = and_from (nat_lt i (length all)) (nat_lt j (length all)) (lt-ltb i (length all) l) (lt-ltb j (length all) m)

  -- what a row lists
  row_named : (i u : ℕ) → u ≡ get_or all i 0 → i < length all → (rest : List ℕ) (j : ℕ) → From all j rest → (fact : Fact) → IsTrue (is_listed (row_news facts i u rest j) fact) → Named facts all fact
  row_named i u is lt [] j f fact e = cc
  row_named i u is lt (v ∷ rest) j f fact e = first (if_listed (facts (In i j)) (In u v) _ fact e) (λ r. row_named i u is lt rest (suc j) (next j v rest f) fact r)
    where
      second : (IsTrue (facts (Up i j)) × (Up u v ≡ fact)) ⊎ IsTrue (is_listed (row_news facts i u rest (suc j)) fact) → (IsTrue (is_listed (row_news facts i u rest (suc j)) fact) → Named facts all fact) → Named facts all fact
      second (inl h) later = record { of = Up i j; over = over_two i j lt (inside j v rest f); has = h.0; named = ap (λ x. Up x (get_or all j 0)) (sym is) ∙ ap (λ y. Up u y) (sym (here j v rest f)) ∙ h.1 }
      second (inr r) later = later r

      first : (IsTrue (facts (In i j)) × (In u v ≡ fact)) ⊎ IsTrue (is_listed (fact_if (facts (Up i j)) (Up u v) (row_news facts i u rest (suc j))) fact) → (IsTrue (is_listed (row_news facts i u rest (suc j)) fact) → Named facts all fact) → Named facts all fact
      first (inl h) later = record { of = In i j; over = over_two i j lt (inside j v rest f); has = h.0; named = ap (λ x. In x (get_or all j 0)) (sym is) ∙ ap (λ y. In u y) (sym (here j v rest f)) ∙ h.1 }
      first (inr r) later = second (if_listed (facts (Up i j)) (Up u v) _ fact r) later

  all_from : From all 0 all
  all_from = record { each = λ k lt. ap (λ i. get_or all i 0) (let e : k ≡ 0 + k = omega arith in e); long = omega arith }

  rows_named : (rest : List ℕ) (i : ℕ) → From all i rest → (fact : Fact) → IsTrue (is_listed (rows_news facts all rest i) fact) → Named facts all fact
  rows_named [] i f fact e = cc
  rows_named (u ∷ rest) i f fact e = first (if_listed (facts (Trad i)) (Trad u) _ fact e) (λ r. rows_named rest (suc i) (next i u rest f) fact r)
    where
      lt : i < length all
      lt = inside i u rest f

      third : IsTrue (is_listed (row_news facts i u all 0) fact) ⊎ IsTrue (is_listed (rows_news facts all rest (suc i)) fact) → (IsTrue (is_listed (rows_news facts all rest (suc i)) fact) → Named facts all fact) → Named facts all fact
      third (inl h) later = row_named i u (here i u rest f) lt all 0 all_from fact h
      third (inr r) later = later r

      second : (IsTrue (facts (NonNull i)) × (NonNull u ≡ fact)) ⊎ IsTrue (is_listed (row_news facts i u all 0 ++ rows_news facts all rest (suc i)) fact) → (IsTrue (is_listed (rows_news facts all rest (suc i)) fact) → Named facts all fact) → Named facts all fact
      second (inl h) later = record { of = NonNull i; over = lt-ltb i (length all) lt; has = h.0; named = ap (λ x. NonNull x) (sym (here i u rest f)) ∙ h.1 }
      second (inr r) later = third (both_listed (row_news facts i u all 0) (rows_news facts all rest (suc i)) fact r) later

      first : (IsTrue (facts (Trad i)) × (Trad u ≡ fact)) ⊎ IsTrue (is_listed (fact_if (facts (NonNull i)) (NonNull u) (row_news facts i u all 0 ++ rows_news facts all rest (suc i))) fact) → (IsTrue (is_listed (rows_news facts all rest (suc i)) fact) → Named facts all fact) → Named facts all fact
      first (inl h) later = record { of = Trad i; over = lt-ltb i (length all) lt; has = h.0; named = ap (λ x. Trad x) (sym (here i u rest f)) ∙ h.1 }
      first (inr r) later = second (if_listed (facts (NonNull i)) (NonNull u) _ fact r) later

  -- each is listed

  in_row : (i u : ℕ) (rest : List ℕ) (j k : ℕ) → k < length rest → From all j rest → IsTrue (facts (In i (j + k))) → IsTrue (is_listed (row_news facts i u rest j) (In u (get_or all (j + k) 0)))
  in_row i u [] j k lt f e = absurd (omega (arith, lt))
  in_row i u (v ∷ rest) j zero lt f e =
      let z : j + 0 ≡ j = omega arith in
      subst (λ y. IsTrue (is_listed (row_news facts i u (v ∷ rest) j) (In u y))) (here j v rest f ∙ ap (λ y. get_or all y 0) (sym z)) (if_here (facts (In i j)) (In u v) _ (subst (λ y. IsTrue (facts (In i y))) z e))
  in_row i u (v ∷ rest) j (suc k) lt f e =
      let z : j + suc k ≡ suc j + k = omega arith in
      subst (λ y. IsTrue (is_listed (row_news facts i u (v ∷ rest) j) (In u (get_or all y 0)))) (sym z) (if_later (facts (In i j)) (In u v) _ _ (if_later (facts (Up i j)) (Up u v) _ _ (in_row i u rest (suc j) k (omega (arith, lt)) (next j v rest f) (subst (λ y. IsTrue (facts (In i y))) z e))))

  up_row : (i u : ℕ) (rest : List ℕ) (j k : ℕ) → k < length rest → From all j rest → IsTrue (facts (Up i (j + k))) → IsTrue (is_listed (row_news facts i u rest j) (Up u (get_or all (j + k) 0)))
  up_row i u [] j k lt f e = absurd (omega (arith, lt))
  up_row i u (v ∷ rest) j zero lt f e =
      let z : j + 0 ≡ j = omega arith in
      subst (λ y. IsTrue (is_listed (row_news facts i u (v ∷ rest) j) (Up u y))) (here j v rest f ∙ ap (λ y. get_or all y 0) (sym z)) (if_later (facts (In i j)) (In u v) _ _ (if_here (facts (Up i j)) (Up u v) _ (subst (λ y. IsTrue (facts (Up i y))) z e)))
  up_row i u (v ∷ rest) j (suc k) lt f e =
      let z : j + suc k ≡ suc j + k = omega arith in
      subst (λ y. IsTrue (is_listed (row_news facts i u (v ∷ rest) j) (Up u (get_or all y 0)))) (sym z) (if_later (facts (In i j)) (In u v) _ _ (if_later (facts (Up i j)) (Up u v) _ _ (up_row i u rest (suc j) k (omega (arith, lt)) (next j v rest f) (subst (λ y. IsTrue (facts (Up i y))) z e))))

  in_whole_row : (i u y : ℕ) → y < length all → IsTrue (facts (In i y)) → IsTrue (is_listed (row_news facts i u all 0) (In u (get_or all y 0)))
  in_whole_row i u y lt h =
      let z : 0 + y ≡ y = omega arith in
      subst (λ k. IsTrue (is_listed (row_news facts i u all 0) (In u (get_or all k 0)))) z (in_row i u all 0 y lt all_from (subst (λ k. IsTrue (facts (In i k))) (sym z) h))

  up_whole_row : (i u y : ℕ) → y < length all → IsTrue (facts (Up i y)) → IsTrue (is_listed (row_news facts i u all 0) (Up u (get_or all y 0)))
  up_whole_row i u y lt h =
      let z : 0 + y ≡ y = omega arith in
      subst (λ k. IsTrue (is_listed (row_news facts i u all 0) (Up u (get_or all k 0)))) z (up_row i u all 0 y lt all_from (subst (λ k. IsTrue (facts (Up i k))) (sym z) h))

  -- of a fact of which the variable i is the first
  abbrev on_first : ℕ → Fact → Type 0
  on_first i (In x y) = x ≡ i
  on_first i (Up x y) = x ≡ i
  on_first i (Trad x) = x ≡ i
  on_first i (NonNull x) = x ≡ i

  abbrev renamed_all : Fact → Fact
  renamed_all fact = fact_with (λ v. get_or all v 0) fact

  here_listed : (i u : ℕ) (rest : List ℕ) → u ≡ get_or all i 0 → (p : Fact) → on_first i p → IsTrue (is_over (length all) p) → IsTrue (facts p) → IsTrue (is_listed (rows_news facts all (u ∷ rest) i) (renamed_all p))
  here_listed i u rest is (Trad x) first o h =
      subst (λ q. IsTrue (is_listed (rows_news facts all (u ∷ rest) i) q)) (ap (λ y. Trad y) (is ∙ ap (λ y. get_or all y 0) (sym first))) (if_here (facts (Trad i)) (Trad u) _ (subst (λ y. IsTrue (facts (Trad y))) first h))
  here_listed i u rest is (NonNull x) first o h =
      subst (λ q. IsTrue (is_listed (rows_news facts all (u ∷ rest) i) q)) (ap (λ y. NonNull y) (is ∙ ap (λ y. get_or all y 0) (sym first)))
      (if_later (facts (Trad i)) (Trad u) _ (NonNull u) (if_here (facts (NonNull i)) (NonNull u) _ (subst (λ y. IsTrue (facts (NonNull y))) first h)))
  here_listed i u rest is (In x y) first o h =
      let lt = ltb-true y (length all) (and_parts (nat_lt x (length all)) (nat_lt y (length all)) o).1 in
      subst (λ q. IsTrue (is_listed (rows_news facts all (u ∷ rest) i) (In q (get_or all y 0)))) (is ∙ ap (λ z. get_or all z 0) (sym first))
      (if_later (facts (Trad i)) (Trad u) _ _ (if_later (facts (NonNull i)) (NonNull u) _ _ (left_listed (row_news facts i u all 0) (rows_news facts all rest (suc i)) _
      (in_whole_row i u y lt (subst (λ z. IsTrue (facts (In z y))) first h)))))
  here_listed i u rest is (Up x y) first o h =
      let lt = ltb-true y (length all) (and_parts (nat_lt x (length all)) (nat_lt y (length all)) o).1 in
      subst (λ q. IsTrue (is_listed (rows_news facts all (u ∷ rest) i) (Up q (get_or all y 0)))) (is ∙ ap (λ z. get_or all z 0) (sym first))
      (if_later (facts (Trad i)) (Trad u) _ _ (if_later (facts (NonNull i)) (NonNull u) _ _ (left_listed (row_news facts i u all 0) (rows_news facts all rest (suc i)) _
      (up_whole_row i u y lt (subst (λ z. IsTrue (facts (Up z y))) first h)))))

  abbrev first_of : Fact → ℕ
  first_of (In x y) = x
  first_of (Up x y) = x
  first_of (Trad x) = x
  first_of (NonNull x) = x

  on_its_first : (p : Fact) (i : ℕ) → first_of p ≡ i → on_first i p
  on_its_first (In x y) i e = e
  on_its_first (Up x y) i e = e
  on_its_first (Trad x) i e = e
  on_its_first (NonNull x) i e = e

  rows_listed : (rest : List ℕ) (i k : ℕ) → k < length rest → From all i rest → (p : Fact) → first_of p ≡ i + k → IsTrue (is_over (length all) p) → IsTrue (facts p) → IsTrue (is_listed (rows_news facts all rest i) (renamed_all p))
  rows_listed [] i k lt f p e o h = absurd (omega (arith, lt))
  rows_listed (u ∷ rest) i zero lt f p e o h = here_listed i u rest (here i u rest f) p (on_its_first p i (omega (arith, e))) o h
  rows_listed (u ∷ rest) i (suc k) lt f p e o h =
      if_later (facts (Trad i)) (Trad u) _ _ (if_later (facts (NonNull i)) (NonNull u) _ _ (right_listed (row_news facts i u all 0) (rows_news facts all rest (suc i)) _
      (rows_listed rest (suc i) k (omega (arith, lt)) (next i u rest f) p (omega (arith, e)) o h)))

  first_inside : (p : Fact) → IsTrue (is_over (length all) p) → first_of p < length all
  first_inside (In x y) o = ltb-true x (length all) (and_parts (nat_lt x (length all)) (nat_lt y (length all)) o).0
  first_inside (Up x y) o = ltb-true x (length all) (and_parts (nat_lt x (length all)) (nat_lt y (length all)) o).0
  first_inside (Trad x) o = ltb-true x (length all) o
  first_inside (NonNull x) o = ltb-true x (length all) o

  named_listed : (fact : Fact) → Named facts all fact → IsTrue (is_listed (rows_news facts all all 0) fact)
  named_listed fact n = subst (λ q. IsTrue (is_listed (rows_news facts all all 0) q)) n.named (rows_listed all 0 (first_of n.of) (first_inside n.of n.over) all_from n.of (omega arith) n.over n.has)

-- behind other facts
pub rows_tell : (facts : Fact → Bool) (names : List ℕ) (old new : List Fact) → new ≡ old ++ rows_news facts names names 0 → (fact : Fact) → IsTrue (is_listed new fact) ↔ (IsTrue (is_listed old fact) ⊎ Named facts names fact)
rows_tell facts names old new e fact = (
  λ h. by (both_listed old (rows_news facts names names 0) fact (subst (λ (ps : List Fact). IsTrue (is_listed ps fact)) e h)),
  λ h. subst (λ (ps : List Fact). IsTrue (is_listed ps fact)) (sym e) (back h),
)
  where
    by : IsTrue (is_listed old fact) ⊎ IsTrue (is_listed (rows_news facts names names 0) fact) → IsTrue (is_listed old fact) ⊎ Named facts names fact
    by (inl h) = inl h
    by (inr h) = inr (rows_named facts names names 0 (all_from facts names) fact h)

    back : IsTrue (is_listed old fact) ⊎ Named facts names fact → IsTrue (is_listed (old ++ rows_news facts names names 0) fact)
    back (inl h) = left_listed old (rows_news facts names names 0) fact h
    back (inr h) = right_listed old (rows_news facts names names 0) fact (named_listed facts names fact h)
