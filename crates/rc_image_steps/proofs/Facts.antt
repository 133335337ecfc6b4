-- Lists of facts, and facts with names.
use Rattle.std.proofs.Common.{◌≡◌, ◌∙◌, ◌⊎◌, inl, inr, ℕ, zero, suc, ◌<◌, ◌≤◌, Bool, true, false, nat_lt, IsTrue, List, [], ◌∷◌, length, get_or, Option, Some, None, option_to_list, Vec, Global, Result, Ok, Err, IfOk, ◌↔◌, refl, sym, ap, subst, arith}
use Rattle.std.specs.List.{All}
use Rattle.std.proofs.lemmas.Bool.{or_cases, or_left, or_right, and_parts, and_from, ltb-true, lt-ltb}
use Rattle.std.proofs.lemmas.List.Elements.{All-nil, All-cons}
use Rattle.rc_base.specs.declared.outside.NoMemory.{NoMemory}
use Rattle.rc_facts.specs.declared.fact.Fact.{Fact}
use Rattle.rc_facts.specs.declared.fact.Fact.TheVariants.{In, Up, Trad, NonNull}
use Rattle.rc_facts.specs.Facts.{is_over, same_fact}
use Rattle.rc_annotations.specs.Annotations.{fact_with}
use Rattle.rc_annotations.proofs.Effects.{same_facts}
use Rattle.rc_edges.proofs.Renaming.{same_self}
use Rattle.rc_edges.specs.Edges.{all_below}
use Rattle.rc_image_claims.specs.Naming.{is_listed, Named}

pub all_listed : (P : Fact → Type 0) (facts : List Fact) → ((fact : Fact) → IsTrue (is_listed facts fact) → P fact) → All P facts
all_listed P [] h = All-nil P
all_listed P (q ∷ facts) h = All-cons P q facts (h q (or_left (same_fact q q) (is_listed facts q) (same_self q))) (all_listed P facts (λ fact e. h fact (or_right (same_fact q fact) (is_listed facts fact) e)))

-- the one that is there, if any
pub one_listed : (o : Option Fact) (fact : Fact) → IsTrue (is_listed (option_to_list o) fact) ↔ (o ≡ Some fact)
one_listed None fact = (λ e. cc, λ e. cc)
one_listed (Some p) fact = (
  λ e. by (or_cases (same_fact p fact) false e),
  λ e. let q : p ≡ fact = cc in or_left (same_fact p fact) false (subst (λ r. IsTrue (same_fact p r)) q (same_self p)),
)
  where
    by : IsTrue (same_fact p fact) ⊎ IsTrue false → Some p ≡ Some fact
    by (inl s) = ap Some (same_facts p fact s)
    by (inr x) = cc

-- ---- names

less_more : (n m x : ℕ) → n ≤ m → IsTrue (nat_lt x n) → IsTrue (nat_lt x m)
less_more n m x le e = let l = ltb-true x n e in lt-ltb x m (omega (arith, l, le))

pub over_more : (n m : ℕ) → n ≤ m → (fact : Fact) → IsTrue (is_over n fact) → IsTrue (is_over m fact)
over_more n m le (In x y) e = let b = and_parts (nat_lt x n) (nat_lt y n) e in and_from (nat_lt x m) (nat_lt y m) (less_more n m x le b.0) (less_more n m y le b.1)
over_more n m le (Up x y) e = let b = and_parts (nat_lt x n) (nat_lt y n) e in and_from (nat_lt x m) (nat_lt y m) (less_more n m x le b.0) (less_more n m y le b.1)
over_more n m le (Trad x) e = less_more n m x le e
over_more n m le (NonNull x) e = less_more n m x le e

-- a fact on n variables, whose names are below m
pub named_over : (n m : ℕ) (name : ℕ → ℕ) → ((x : ℕ) → x < n → name x < m) → (fact : Fact) → IsTrue (is_over n fact) → IsTrue (is_over m (fact_with name fact))
named_over n m name below (In x y) e = let b = and_parts (nat_lt x n) (nat_lt y n) e in and_from (nat_lt (name x) m) (nat_lt (name y) m) (lt-ltb (name x) m (below x (ltb-true x n b.0))) (lt-ltb (name y) m (below y (ltb-true y n b.1)))
named_over n m name below (Up x y) e = let b = and_parts (nat_lt x n) (nat_lt y n) e in and_from (nat_lt (name x) m) (nat_lt (name y) m) (lt-ltb (name x) m (below x (ltb-true x n b.0))) (lt-ltb (name y) m (below y (ltb-true y n b.1)))
named_over n m name below (Trad x) e = lt-ltb (name x) m (below x (ltb-true x n e))
named_over n m name below (NonNull x) e = lt-ltb (name x) m (below x (ltb-true x n e))

-- the same names below n
pub named_alike : (n : ℕ) (name other : ℕ → ℕ) → ((x : ℕ) → x < n → name x ≡ other x) → (fact : Fact) → IsTrue (is_over n fact) → fact_with name fact ≡ fact_with other fact
named_alike n name other same (In x y) e = let b = and_parts (nat_lt x n) (nat_lt y n) e in ap (λ z. In z (name y)) (same x (ltb-true x n b.0)) ∙ ap (λ z. In (other x) z) (same y (ltb-true y n b.1))
named_alike n name other same (Up x y) e = let b = and_parts (nat_lt x n) (nat_lt y n) e in ap (λ z. Up z (name y)) (same x (ltb-true x n b.0)) ∙ ap (λ z. Up (other x) z) (same y (ltb-true y n b.1))
named_alike n name other same (Trad x) e = ap Trad (same x (ltb-true x n e))
named_alike n name other same (NonNull x) e = ap NonNull (same x (ltb-true x n e))

own_names : (fact : Fact) → fact_with (λ x. x) fact ≡ fact
own_names (In x y) = refl
own_names (Up x y) = refl
own_names (Trad x) = refl
own_names (NonNull x) = refl

pub below_at : (n : ℕ) (xs : List ℕ) → all_below n xs → (x : ℕ) → x < length xs → get_or xs x 0 < n
below_at n [] all x lt = absurd (omega (arith, lt))
below_at n (y ∷ xs) all zero lt = all.0
below_at n (y ∷ xs) all (suc x) lt = below_at n xs all.1 x (omega (arith, lt))

-- where each variable keeps its name
pub kept_names : (facts : Fact → Bool) (n : ℕ) (names : List ℕ) → length names ≡ n → ((x : ℕ) → x < n → get_or names x 0 ≡ x) → ((fact : Fact) → IsTrue (facts fact) → IsTrue (is_over n fact)) → (fact : Fact) → Named facts names fact ↔ IsTrue (facts fact)
kept_names facts n names long each over fact = (
  λ named. subst (λ p. IsTrue (facts p)) (sym (own named.of (subst (λ k. IsTrue (is_over k named.of)) long named.over)) ∙ named.named) named.has,
  λ has. record { of = fact; over = subst (λ k. IsTrue (is_over k fact)) (sym long) (over fact has); has = has; named = own fact (over fact has) },
)
  where
    own : (p : Fact) → IsTrue (is_over n p) → fact_with (λ v. get_or names v 0) p ≡ p
    own p o = named_alike n (λ v. get_or names v 0) (λ x. x) each p o ∙ own_names p

pub same_truth : (a b : Bool) → (IsTrue a → IsTrue b) → (IsTrue b → IsTrue a) → a ≡ b
same_truth true true to from = refl
same_truth true false to from = let e : IsTrue false = to refl in cc
same_truth false true to from = let e : IsTrue false = from refl in cc
same_truth false false to from = refl

pub if_ok_more : (r : Result (Vec Fact Global) NoMemory) (P Q : Vec Fact Global → Type 0) → ((facts : Vec Fact Global) → P facts → Q facts) → IfOk r P → IfOk r Q
if_ok_more (Ok facts) P Q more h = more facts h
if_ok_more (Err e) P Q more h = tt

pub both_ways : (A B C : Type 0) → A ↔ B → B ↔ C → A ↔ C
both_ways A B C h k = (λ a. k.0 (h.0 a), λ c. h.1 (k.1 c))
