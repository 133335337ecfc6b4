-- The facts of a set are those that pass its test.
use Rattle.std.proofs.Common.{◌≡◌, ◌∙◌, inl, inr, ◌+◌, ◌<◌, ◌≤◌, ℕ, suc, zero, Bool, true, false, List, [], ◌∷◌, ◌++◌, length, map, ◌&&◌, ◌||◌, ◌==◌, nat_lt, nat_le, filter, refl, sym, ap, arith, cond}
use Rattle.std.specs.List.{list_any, flat_map, range_with_len}
use Rattle.std.proofs.lemmas.Bool.{and_parts, both_ways, or_cases, eqb-true}
use Rattle.std.proofs.lemmas.Bool.Decides.{nat_tests}
use Rattle.std.proofs.lemmas.List.Folds.{list_any-append}
use Rattle.std.proofs.lemmas.Map.Views.{any-filter_same}
use Rattle.rc_facts.specs.declared.fact.Fact.{Fact}
use Rattle.rc_facts.specs.declared.fact.Fact.TheVariants.{In, Up, Trad, NonNull}
use Rattle.rc_facts.specs.Facts.{same_fact, is_over, holds}
use Rattle.rc_facts.specs.Inside.{pairs, facts_over, known_by}

-- the test of equality tells
pub same_fact-true : (f g : Fact) → same_fact f g ≡ true → f ≡ g
same_fact-true (In a b) (In x y) is = let both = and_parts (a == x) _ is in ap (λ v. In v b) (eqb-true a x both.0) ∙ ap (λ v. In x v) (eqb-true b y both.1)
same_fact-true (Up a b) (Up x y) is = let both = and_parts (a == x) _ is in ap (λ v. Up v b) (eqb-true a x both.0) ∙ ap (λ v. Up x v) (eqb-true b y both.1)
same_fact-true (Trad a) (Trad x) is = ap (λ v. Trad v) (eqb-true a x is)
same_fact-true (NonNull a) (NonNull x) is = ap (λ v. NonNull v) (eqb-true a x is)
same_fact-true (In a b) (Up x y) is = cc
same_fact-true (In a b) (Trad x) is = cc
same_fact-true (In a b) (NonNull x) is = cc
same_fact-true (Up a b) (In x y) is = cc
same_fact-true (Up a b) (Trad x) is = cc
same_fact-true (Up a b) (NonNull x) is = cc
same_fact-true (Trad a) (In x y) is = cc
same_fact-true (Trad a) (Up x y) is = cc
same_fact-true (Trad a) (NonNull x) is = cc
same_fact-true (NonNull a) (In x y) is = cc
same_fact-true (NonNull a) (Up x y) is = cc
same_fact-true (NonNull a) (Trad x) is = cc

-- what a test finds in lists made from others
any-map : {X Y : Type 0} (p : Y → Bool) (f : X → Y) (xs : List X) → list_any p (map f xs) ≡ list_any (λ x. p (f x)) xs
any-map p f [] = refl
any-map p f (x ∷ xs) = ap (λ b. p (f x) || b) (any-map p f xs)

any-flat_map : {X Y : Type 0} (p : Y → Bool) (f : X → List Y) (xs : List X) → list_any p (flat_map f xs) ≡ list_any (λ x. list_any p (f x)) xs
any-flat_map p f [] = refl
any-flat_map p f (x ∷ xs) = list_any-append p (f x) (flat_map f xs) ∙ ap (λ b. list_any p (f x) || b) (any-flat_map p f xs)

any_never : {X : Type 0} (xs : List X) → list_any (λ x. false) xs ≡ false
any_never [] = refl
any_never (x ∷ xs) = any_never xs

any_and : {X : Type 0} (p : X → Bool) (b : Bool) (xs : List X) → list_any (λ x. p x && b) xs ≡ (list_any p xs && b)
any_and p b [] = refl
any_and p b (x ∷ xs) = ap (λ c. (p x && b) || c) (any_and p b xs) ∙ split (p x) b (list_any p xs)
  where
    split : (c d e : Bool) → ((c && d) || (e && d)) ≡ ((c || e) && d)
    split true true e = refl
    split true false true = refl
    split true false false = refl
    split false d e = refl

any_other : {X : Type 0} (b : Bool) (p : X → Bool) (xs : List X) → list_any (λ x. b && p x) xs ≡ (b && list_any p xs)
any_other true p xs = refl
any_other false p xs = any_never xs

-- a number is found in a range that has it
any-range : (v a n : ℕ) → list_any (λ x. v == x) (range_with_len a n) ≡ (nat_le a v && nat_lt v (a + n))
any-range v a zero = grind (arith, nat_tests)
any-range v a (suc n) = ap (λ b. v == a || b) (any-range v (a + 1) n) ∙ grind (arith, nat_tests)

pub any_below : (v n : ℕ) → list_any (λ x. v == x) (range_with_len 0 n) ≡ nat_lt v n
any_below v n = any-range v 0 n ∙ grind (arith, nat_tests)

any-pairs : (p : Fact → Bool) (fact : ℕ → ℕ → Fact) (n : ℕ) → list_any p (pairs fact n) ≡ list_any (λ x. list_any (λ y. p (fact x y)) (range_with_len 0 n)) (range_with_len 0 n)
any-pairs p fact n = any-flat_map p (λ x. map (fact x) (range_with_len 0 n)) (range_with_len 0 n) ∙ (λ i. list_any (λ x. any-map p (fact x) (range_with_len 0 n) i) (range_with_len 0 n))

abbrev numbers : ℕ → List ℕ
numbers n = range_with_len 0 n

any-facts_over : (p : Fact → Bool) (n : ℕ) → list_any p (facts_over n) ≡ ((list_any (λ x. list_any (λ y. p (In x y)) (numbers n)) (numbers n) || list_any (λ x. list_any (λ y. p (Up x y)) (numbers n)) (numbers n)) || (list_any (λ x. p (Trad x)) (numbers n) || list_any (λ x. p (NonNull x)) (numbers n)))
any-facts_over p n =
    list_any-append p (pairs (λ x y. In x y) n ++ pairs (λ x y. Up x y) n) (map (λ x. Trad x) (numbers n) ++ map (λ x. NonNull x) (numbers n))
    ∙ (λ i. (list_any-append p (pairs (λ x y. In x y) n) (pairs (λ x y. Up x y) n) ∙ (λ j. any-pairs p (λ x y. In x y) n j || any-pairs p (λ x y. Up x y) n j)) i || (list_any-append p (map (λ x. Trad x) (numbers n)) (map (λ x. NonNull x) (numbers n)) ∙ (λ j. any-map p (λ x. Trad x) (numbers n) j || any-map p (λ x. NonNull x) (numbers n) j)) i)

any_pair : (a b n : ℕ) → list_any (λ x. list_any (λ y. a == x && b == y) (numbers n)) (numbers n) ≡ (nat_lt a n && nat_lt b n)
any_pair a b n =
    (λ i. list_any (λ x. any_other (a == x) (λ y. b == y) (numbers n) i) (numbers n))
    ∙ any_and (λ x. a == x) (list_any (λ y. b == y) (numbers n)) (numbers n)
    ∙ (λ i. any_below a n i && any_below b n i)

no_pair : (n : ℕ) → list_any (λ x. list_any (λ y. false) (numbers n)) (numbers n) ≡ false
no_pair n = (λ i. list_any (λ x. any_never (numbers n) i) (numbers n)) ∙ any_never (numbers n)

-- of all facts over n variables, those that are over them are found
pub all_over : (f : Fact) (n : ℕ) → list_any (same_fact f) (facts_over n) ≡ is_over n f
all_over (In a b) n = any-facts_over (same_fact (In a b)) n ∙ (λ i. (any_pair a b n i || no_pair n i) || (any_never (numbers n) i || any_never (numbers n) i)) ∙ first_of_four (nat_lt a n && nat_lt b n)
  where
    first_of_four : (b : Bool) → ((b || false) || (false || false)) ≡ b
    first_of_four true = refl
    first_of_four false = refl
all_over (Up a b) n = any-facts_over (same_fact (Up a b)) n ∙ (λ i. (no_pair n i || any_pair a b n i) || (any_never (numbers n) i || any_never (numbers n) i)) ∙ second_of_four (nat_lt a n && nat_lt b n)
  where
    second_of_four : (b : Bool) → ((false || b) || (false || false)) ≡ b
    second_of_four true = refl
    second_of_four false = refl
all_over (Trad a) n = any-facts_over (same_fact (Trad a)) n ∙ (λ i. (no_pair n i || no_pair n i) || (any_below a n i || any_never (numbers n) i)) ∙ third_of_four (nat_lt a n)
  where
    third_of_four : (b : Bool) → ((false || false) || (b || false)) ≡ b
    third_of_four true = refl
    third_of_four false = refl
all_over (NonNull a) n = any-facts_over (same_fact (NonNull a)) n ∙ (λ i. (no_pair n i || no_pair n i) || (any_never (numbers n) i || any_below a n i))

pub and_implied : (b c : Bool) → (b ≡ true → c ≡ true) → (b && c) ≡ b
and_implied true c implies = implies refl
and_implied false c implies = refl

-- a set that is given by a test which only facts over its variables pass
pub holds_known : (n : ℕ) (test : Fact → Bool) (f : Fact) → ((g : Fact) → test g ≡ true → is_over n g ≡ true) → holds (known_by n test) f ≡ test f
unfolding holds
holds_known n test f over =
    any-filter_same (same_fact f) test (test f) (λ g same. ap test (sym (same_fact-true f g same))) (facts_over n)
    ∙ ap (λ b. test f && b) (all_over f n)
    ∙ and_implied (test f) (is_over n f) (over f)

-- a filter that lets fewer through leaves a shorter list
le-cond : {X : Type 0} (x : X) (xs ys : List X) (b c : Bool) → (b ≡ true → c ≡ true) → length xs ≤ length ys → length (cond b (x ∷ xs) xs) ≤ length (cond c (x ∷ ys) ys)
le-cond x xs ys true true implies below = omega (arith, below)
le-cond x xs ys true false implies below = absurd (both_ways false refl (implies refl))
le-cond x xs ys false true implies below = omega (arith, below)
le-cond x xs ys false false implies below = below

lt-cond : {X : Type 0} (x : X) (xs ys : List X) (b c : Bool) → (b ≡ true → c ≡ true) → length xs < length ys → length (cond b (x ∷ xs) xs) < length (cond c (x ∷ ys) ys)
lt-cond x xs ys true true implies below = omega (arith, below)
lt-cond x xs ys true false implies below = absurd (both_ways false refl (implies refl))
lt-cond x xs ys false true implies below = omega (arith, below)
lt-cond x xs ys false false implies below = below

filter-le : {X : Type 0} (p q : X → Bool) → ((x : X) → p x ≡ true → q x ≡ true) → (xs : List X) → length (filter p xs) ≤ length (filter q xs)
filter-le p q less [] = omega arith
filter-le p q less (x ∷ xs) = le-cond x (filter p xs) (filter q xs) (p x) (q x) (less x) (filter-le p q less xs)

pub filter-lt : {X : Type 0} (p q lost : X → Bool) → ((x : X) → p x ≡ true → q x ≡ true) → ((x : X) → lost x ≡ true → (p x ≡ false) × (q x ≡ true)) → (xs : List X) → list_any lost xs ≡ true → length (filter p xs) < length (filter q xs)
filter-lt p q lost less is_lost [] there = absurd (both_ways false refl there)
filter-lt p q lost less is_lost (x ∷ xs) there = elim (or_cases (lost x) _ there) [
  | inl here ↦
      let tests = is_lost x here in
      rw (tests.0, tests.1) (omega (arith, filter-le p q less xs))
  | inr later ↦ lt-cond x (filter p xs) (filter q xs) (p x) (q x) (less x) (filter-lt p q lost less is_lost xs later)
]
