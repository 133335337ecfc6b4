-- The list of all facts on variables below a number has each of them.
use Rattle.std.proofs.Common.{◌≡◌, ℕ, zero, suc, ◌+◌, ◌<◌, Bool, true, false, ◌||◌, ◌&&◌, ◌==◌, ◌++◌, nat_lt, IsTrue, List, [], ◌∷◌, length, get_or, refl, sym, ap, ◌∙◌, subst, arith, append_assoc}
use Rattle.std.specs.List.{All, list_any, flat_map, range_with_len}
use Rattle.std.proofs.lemmas.Grind.{flat_map-append}
use Rattle.std.proofs.lemmas.List.{flat_map_more}
use Rattle.std.proofs.lemmas.List.Elements.{All-nil, All-cons, All-get_or}
use Rattle.std.proofs.lemmas.Bool.{and_parts, and_from, or_left, or_right, eq-eqb, ltb-true, lt-ltb}
use Rattle.rc_facts.specs.declared.fact.Fact.{Fact}
use Rattle.rc_facts.specs.declared.fact.Fact.TheVariants.{In, Up, Trad, NonNull}
use Rattle.rc_facts.specs.Facts.{Known, holds, is_over, same_fact}
use Rattle.rc_facts.proofs.Sets.{same_fact-true, any_below}
use Rattle.rc_facts.proofs.RowLaws.{and_never, eq_swap}
use Rattle.rc_annotations.specs.Annotations.{fact_with}
use Rattle.rc_boundaries.specs.Every.{every_fact, facts_with, pairs_with}
use Rattle.rc_edges.specs.Reading.{read_by}

range_from : (a n : ℕ) → range_with_len a (suc n) ≡ range_with_len a n ++ (a + n) ∷ []
range_from a zero = ap (λ i. i ∷ []) (let q : a ≡ a + 0 = omega arith in q)
range_from a (suc n) = ap (λ xs. a ∷ xs) (range_from (a + 1) n ∙ ap (λ i. range_with_len (a + 1) n ++ i ∷ []) (let q : (a + 1) + n ≡ a + suc n = omega arith in q))

pub range_more : (n : ℕ) → range_with_len 0 (n + 1) ≡ range_with_len 0 n ++ n ∷ []
range_more n = ap (range_with_len 0) (let q : n + 1 ≡ suc n = omega arith in q) ∙ range_from 0 n ∙ ap (λ i. range_with_len 0 n ++ i ∷ []) (let q : 0 + n ≡ n = omega arith in q)

pub numbers_more : (xs ys : List ℕ) (n : ℕ) → ys ≡ xs ++ n ∷ [] → xs ≡ range_with_len 0 n → ys ≡ range_with_len 0 (n + 1)
numbers_more xs ys n e f = e ∙ ap (λ z. z ++ n ∷ []) f ∙ sym (range_more n)

pairs_more : (x y : ℕ) → pairs_with x (range_with_len 0 (y + 1)) ≡ pairs_with x (range_with_len 0 y) ++ In x y ∷ Up x y ∷ []
pairs_more x y = ap (pairs_with x) (range_more y) ∙ flat_map-append (λ y. In x y ∷ Up x y ∷ []) (range_with_len 0 y) (y ∷ [])

pub row_more : (old items three four : List Fact) (x y : ℕ) → three ≡ items ++ In x y ∷ [] → four ≡ three ++ Up x y ∷ [] → items ≡ old ++ (Trad x ∷ NonNull x ∷ pairs_with x (range_with_len 0 y)) → four ≡ old ++ (Trad x ∷ NonNull x ∷ pairs_with x (range_with_len 0 (y + 1)))
row_more old items three four x y e f i =
    f ∙ ap (λ z. z ++ Up x y ∷ []) e ∙ append_assoc items (In x y ∷ []) (Up x y ∷ []) ∙ ap (λ z. z ++ In x y ∷ Up x y ∷ []) i
    ∙ append_assoc old (Trad x ∷ NonNull x ∷ pairs_with x (range_with_len 0 y)) (In x y ∷ Up x y ∷ []) ∙ ap (λ z. old ++ (Trad x ∷ NonNull x ∷ z)) (sym (pairs_more x y))

pub every_more : (n x : ℕ) (items more : List Fact) → more ≡ items ++ facts_with x n → items ≡ flat_map (λ x. facts_with x n) (range_with_len 0 x) → more ≡ flat_map (λ x. facts_with x n) (range_with_len 0 (x + 1))
every_more n x items more e i = e ∙ ap (λ z. z ++ facts_with x n) i ∙ flat_map_more (λ x. facts_with x n) [] (range_with_len 0 x) x ∙ ap (flat_map (λ x. facts_with x n)) (sym (range_more x))

any_join : (p : Fact → Bool) (xs ys : List Fact) → list_any p (xs ++ ys) ≡ (list_any p xs || list_any p ys)
any_join p [] ys = refl
any_join p (x ∷ xs) ys = ap (λ b. p x || b) (any_join p xs ys) ∙ by (p x) (list_any p xs) (list_any p ys)
  where
    by : (a b c : Bool) → (a || (b || c)) ≡ ((a || b) || c)
    by true b c = refl
    by false b c = refl

share_left : (t u l : Bool) → ((t && u) || (t && l)) ≡ (t && (u || l))
share_left true u l = refl
share_left false u l = refl

share_right : (t m l : Bool) → ((t && l) || (m && l)) ≡ ((t || m) && l)
share_right true true true = refl
share_right true true false = refl
share_right true false true = refl
share_right true false false = refl
share_right false m l = refl

abbrev pair_test : (x : ℕ) → List ℕ → Fact → Bool
pair_test x ys (In a b) = x == a && list_any (λ y. y == b) ys
pair_test x ys (Up a b) = x == a && list_any (λ y. y == b) ys
pair_test x ys (Trad a) = false
pair_test x ys (NonNull a) = false

pairs_any : (fact : Fact) (x : ℕ) (ys : List ℕ) → list_any (λ p. same_fact p fact) (pairs_with x ys) ≡ pair_test x ys fact
pairs_any (In a b) x [] = sym (and_never (x == a))
pairs_any (Up a b) x [] = sym (and_never (x == a))
pairs_any (Trad a) x [] = refl
pairs_any (NonNull a) x [] = refl
pairs_any (In a b) x (y ∷ ys) = ap (λ r. (x == a && y == b) || r) (pairs_any (In a b) x ys) ∙ share_left (x == a) (y == b) (list_any (λ y. y == b) ys)
pairs_any (Up a b) x (y ∷ ys) = ap (λ r. (x == a && y == b) || r) (pairs_any (Up a b) x ys) ∙ share_left (x == a) (y == b) (list_any (λ y. y == b) ys)
pairs_any (Trad a) x (y ∷ ys) = pairs_any (Trad a) x ys
pairs_any (NonNull a) x (y ∷ ys) = pairs_any (NonNull a) x ys

abbrev whole_test : List ℕ → List ℕ → Fact → Bool
whole_test xs ys (In a b) = list_any (λ x. x == a) xs && list_any (λ y. y == b) ys
whole_test xs ys (Up a b) = list_any (λ x. x == a) xs && list_any (λ y. y == b) ys
whole_test xs ys (Trad a) = list_any (λ x. x == a) xs
whole_test xs ys (NonNull a) = list_any (λ x. x == a) xs

abbrev rows_of : List ℕ → List ℕ → List Fact
rows_of xs ys = flat_map (λ x. Trad x ∷ NonNull x ∷ pairs_with x ys) xs

rows_join : (fact : Fact) (x : ℕ) (xs ys : List ℕ) → list_any (λ p. same_fact p fact) (pairs_with x ys ++ rows_of xs ys) ≡ (pair_test x ys fact || list_any (λ p. same_fact p fact) (rows_of xs ys))
rows_join fact x xs ys = any_join (λ p. same_fact p fact) (pairs_with x ys) (rows_of xs ys) ∙ ap (λ b. b || list_any (λ p. same_fact p fact) (rows_of xs ys)) (pairs_any fact x ys)

rows_any : (fact : Fact) (xs ys : List ℕ) → list_any (λ p. same_fact p fact) (rows_of xs ys) ≡ whole_test xs ys fact
rows_any (In a b) [] ys = refl
rows_any (Up a b) [] ys = refl
rows_any (Trad a) [] ys = refl
rows_any (NonNull a) [] ys = refl
rows_any (In a b) (x ∷ xs) ys = rows_join (In a b) x xs ys ∙ ap (λ r. (x == a && list_any (λ y. y == b) ys) || r) (rows_any (In a b) xs ys) ∙ share_right (x == a) (list_any (λ x. x == a) xs) (list_any (λ y. y == b) ys)
rows_any (Up a b) (x ∷ xs) ys = rows_join (Up a b) x xs ys ∙ ap (λ r. (x == a && list_any (λ y. y == b) ys) || r) (rows_any (Up a b) xs ys) ∙ share_right (x == a) (list_any (λ x. x == a) xs) (list_any (λ y. y == b) ys)
rows_any (Trad a) (x ∷ xs) ys = ap (λ r. x == a || r) (rows_join (Trad a) x xs ys ∙ rows_any (Trad a) xs ys)
rows_any (NonNull a) (x ∷ xs) ys = ap (λ r. x == a || r) (rows_join (NonNull a) x xs ys ∙ rows_any (NonNull a) xs ys)

turned : (v : ℕ) (xs : List ℕ) → list_any (λ x. x == v) xs ≡ list_any (λ x. v == x) xs
turned v [] = refl
turned v (x ∷ xs) = ap (λ b. b || list_any (λ x. x == v) xs) (eq_swap x v) ∙ ap (λ b. v == x || b) (turned v xs)

below_any : (v n : ℕ) → list_any (λ x. x == v) (range_with_len 0 n) ≡ nat_lt v n
below_any v n = turned v (range_with_len 0 n) ∙ any_below v n

whole_over : (n : ℕ) (fact : Fact) → whole_test (range_with_len 0 n) (range_with_len 0 n) fact ≡ is_over n fact
whole_over n (In a b) = ap (λ t. t && list_any (λ y. y == b) (range_with_len 0 n)) (below_any a n) ∙ ap (λ t. nat_lt a n && t) (below_any b n)
whole_over n (Up a b) = ap (λ t. t && list_any (λ y. y == b) (range_with_len 0 n)) (below_any a n) ∙ ap (λ t. nat_lt a n && t) (below_any b n)
whole_over n (Trad a) = below_any a n
whole_over n (NonNull a) = below_any a n

pub every_over : (n : ℕ) (fact : Fact) → list_any (λ p. same_fact p fact) (every_fact n) ≡ is_over n fact
every_over n fact = rows_any fact (range_with_len 0 n) (range_with_len 0 n) ∙ whole_over n fact

same_self : (p : Fact) → same_fact p p ≡ true
same_self (In x y) = and_from (x == x) (y == y) (eq-eqb x x refl) (eq-eqb y y refl)
same_self (Up x y) = and_from (x == x) (y == y) (eq-eqb x x refl) (eq-eqb y y refl)
same_self (Trad x) = eq-eqb x x refl
same_self (NonNull x) = eq-eqb x x refl

-- a fact of the list that a test passes
pub any_wanted : (wanted : Fact → Bool) (fact : Fact) (ps : List Fact) → list_any (λ p. wanted p && same_fact p fact) ps ≡ (list_any (λ p. same_fact p fact) ps && wanted fact)
any_wanted wanted fact [] = refl
any_wanted wanted fact (p ∷ ps) = ap (λ r. (wanted p && same_fact p fact) || r) (any_wanted wanted fact ps) ∙ by (same_fact p fact) refl
  where
    inner : (w l : Bool) → (w || (l && w)) ≡ w
    inner true l = refl
    inner false true = refl
    inner false false = refl

    kept : (w : Bool) → (w && true) ≡ w
    kept true = refl
    kept false = refl

    by : (b : Bool) → same_fact p fact ≡ b → ((wanted p && b) || (list_any (λ p. same_fact p fact) ps && wanted fact)) ≡ ((b || list_any (λ p. same_fact p fact) ps) && wanted fact)
    by true e = ap (λ w. w || (list_any (λ p. same_fact p fact) ps && wanted fact)) (kept (wanted p) ∙ ap wanted (same_fact-true p fact e)) ∙ inner (wanted fact) (list_any (λ p. same_fact p fact) ps)
    by false e = ap (λ w. w || (list_any (λ p. same_fact p fact) ps && wanted fact)) (and_never (wanted p))

all_of : (P : Fact → Type 0) (ps : List Fact) → ((p : Fact) → list_any (λ q. same_fact q p) ps ≡ true → P p) → All P ps
all_of P [] h = All-nil P
all_of P (x ∷ ps) h = All-cons P x ps (h x (or_left (same_fact x x) _ (same_self x))) (all_of P ps (λ p e. h p (or_right (same_fact x p) _ e)))

pub every_all : (n : ℕ) (P : Fact → Type 0) → ((p : Fact) → is_over n p ≡ true → P p) → All P (every_fact n)
every_all n P h = all_of P (every_fact n) (λ p e. h p (sym (every_over n p) ∙ e))

-- names below n
name_less : (n : ℕ) (names : List ℕ) → All (λ x. x < n) names → (v : ℕ) → nat_lt v (length names) ≡ true → nat_lt (get_or names v 0) n ≡ true
name_less n names all v e = lt-ltb (get_or names v 0) n (All-get_or (λ x. x < n) names v 0 (ltb-true v (length names) e) all)

pub named_over : (n : ℕ) (names : List ℕ) → All (λ x. x < n) names → (p : Fact) → is_over (length names) p ≡ true → is_over n (fact_with (λ v. get_or names v 0) p) ≡ true
named_over n names all (In x y) e = let q = and_parts (nat_lt x (length names)) (nat_lt y (length names)) e in and_from _ _ (name_less n names all x q.0) (name_less n names all y q.1)
named_over n names all (Up x y) e = let q = and_parts (nat_lt x (length names)) (nat_lt y (length names)) e in and_from _ _ (name_less n names all x q.0) (name_less n names all y q.1)
named_over n names all (Trad x) e = name_less n names all x e
named_over n names all (NonNull x) e = name_less n names all x e

pub read_is : (names : List ℕ) (known : Known) (none found : Fact → Bool) (ps : List Fact) → ((p : Fact) → none p ≡ false) → ps ≡ every_fact (length names) → ((p : Fact) → found p ≡ (none p || list_any (λ q. holds known (fact_with (λ v. get_or names v 0) q) && same_fact q p) ps)) → (fact : Fact) → found fact ≡ read_by names known fact
read_is names known none found ps empty all is fact =
    is fact ∙ ap (λ b. b || list_any (λ q. holds known (fact_with (λ v. get_or names v 0) q) && same_fact q fact) ps) (empty fact)
    ∙ any_wanted (λ q. holds known (fact_with (λ v. get_or names v 0) q)) fact ps
    ∙ ap (λ b. b && holds known (fact_with (λ v. get_or names v 0) fact)) (ap (list_any (λ q. same_fact q fact)) all ∙ every_over (length names) fact)

pub over_all : (m : ℕ) (ps : List Fact) → ps ≡ every_fact m → All (λ p. IsTrue (is_over m p)) ps
over_all m ps e = subst (All (λ p. IsTrue (is_over m p))) (sym e) (every_all m (λ p. IsTrue (is_over m p)) (λ p is. is))

pub own_all : (n : ℕ) (names : List ℕ) (ps : List Fact) → All (λ x. x < n) names → ps ≡ every_fact (length names) → All (λ p. IsTrue (is_over n (fact_with (λ v. get_or names v 0) p))) ps
own_all n names ps all e = subst (All (λ p. IsTrue (is_over n (fact_with (λ v. get_or names v 0) p)))) (sym e) (every_all (length names) (λ p. IsTrue (is_over n (fact_with (λ v. get_or names v 0) p))) (named_over n names all))
