-- Stops that wait.
use Rattle.std.proofs.Common.{◌≡◌, ℕ, ◌+◌, ◌<◌, true, false, nat_eq, IsTrue, List, [], ◌∷◌, ◌++◌, length, refl, sym, ap, ◌∙◌, subst, inl, inr, ◌⊎◌, arith}
use Rattle.std.proofs.lemmas.Bool.{or_cases, or_left, or_right, eqb-true, eq-eqb}
use Rattle.rc_stops.specs.Waits.{is_among, AreBelow}

not_both : false ≡ true → ⊥
not_both c = cc

pub among_last : (xs : List ℕ) (x : ℕ) → IsTrue (is_among (xs ++ x ∷ []) x)
among_last [] x = or_left (nat_eq x x) false (eq-eqb x x refl)
among_last (y ∷ xs) x = or_right (nat_eq x y) (is_among (xs ++ x ∷ []) x) (among_last xs x)

pub among_more : (xs : List ℕ) (x k : ℕ) → IsTrue (is_among xs k) → IsTrue (is_among (xs ++ x ∷ []) k)
among_more [] x k is = absurd (not_both is)
among_more (y ∷ xs) x k is = elim (or_cases (nat_eq k y) (is_among xs k) is) [
  | inl e ↦ or_left (nat_eq k y) (is_among (xs ++ x ∷ []) k) e
  | inr m ↦ or_right (nat_eq k y) (is_among (xs ++ x ∷ []) k) (among_more xs x k m)
]

pub among_parts : (xs : List ℕ) (x k : ℕ) → IsTrue (is_among (xs ++ x ∷ []) k) → (k ≡ x) ⊎ IsTrue (is_among xs k)
among_parts [] x k is = elim (or_cases (nat_eq k x) false is) [ inl e ↦ inl (eqb-true k x e) | inr m ↦ absurd (not_both m) ]
among_parts (y ∷ xs) x k is = elim (or_cases (nat_eq k y) (is_among (xs ++ x ∷ []) k) is) [
  | inl e ↦ inr (or_left (nat_eq k y) (is_among xs k) e)
  | inr m ↦ elim (among_parts xs x k m) [ inl e ↦ inl e | inr o ↦ inr (or_right (nat_eq k y) (is_among xs k) o) ]
]

pub below_more : (n : ℕ) (old new : List ℕ) (at : ℕ) → new ≡ old ++ at ∷ [] → at < n → AreBelow n old → AreBelow n new
below_more n old new at e lt below k is = elim (among_parts old at k (subst (λ (ss : List ℕ). IsTrue (is_among ss k)) e is)) [ inl q ↦ omega (arith, q, lt) | inr m ↦ below k m ]

pub below_less : (n : ℕ) (old new : List ℕ) (at : ℕ) → old ≡ new ++ at ∷ [] → AreBelow n old → AreBelow n new
below_less n old new at e below k is = below k (subst (λ (ss : List ℕ). IsTrue (is_among ss k)) (sym e) (among_more new at k is))

pub below_last : (n : ℕ) (old new : List ℕ) (at : ℕ) → old ≡ new ++ at ∷ [] → AreBelow n old → at < n
below_last n old new at e below = below at (subst (λ (ss : List ℕ). IsTrue (is_among ss at)) (sym e) (among_last new at))

pub shorter : (old new : List ℕ) (at : ℕ) → old ≡ new ++ at ∷ [] → length new + 1 ≡ length old
shorter old new at e = sym (ap length e ∙ by new)
  where
    by : (xs : List ℕ) → length (xs ++ at ∷ []) ≡ length xs + 1
    by [] = omega arith
    by (x ∷ xs) = let r = by xs in omega (arith, r)

pub none_waits : (stops : List ℕ) (k : ℕ) → length stops ≡ 0 → IsTrue (is_among stops k) → ⊥
none_waits [] k e is = not_both is
none_waits (x ∷ stops) k e is = cc

pub among_taken : (old new : List ℕ) (at : ℕ) → old ≡ new ++ at ∷ [] → (k : ℕ) → IsTrue (is_among old k) → (k ≡ at) ⊎ IsTrue (is_among new k)
among_taken old new at e k is = among_parts new at k (subst (λ (ss : List ℕ). IsTrue (is_among ss k)) e is)
