-- What finite lists have, and tests of all numbers below a bound.
use Rattle.std.proofs.Common.{◌≡◌, ◌<◌, ◌⊎◌, inl, inr, ℕ, Bool, true, false, ◌||◌, List, [], ◌∷◌, ◌++◌, map, refl, sym, ap, ◌∙◌}
use Rattle.std.specs.List.{list_any}
use Rattle.rc_annotations.specs.Annotations.{some_below}
use Rattle.rc_edges.proofs.Closing.{some_in}

-- a list has it
abbrev pub Has : {K : Type 0} → K → List K → Type 0
Has k [] = ⊥
Has k (j ∷ ks) = (k ≡ j) ⊎ Has k ks

pub has_left : {K : Type 0} (k : K) (xs ys : List K) → Has k xs → Has k (xs ++ ys)
has_left k [] ys h = absurd h
has_left k (x ∷ xs) ys (inl e) = inl e
has_left k (x ∷ xs) ys (inr h) = inr (has_left k xs ys h)

pub has_right : {K : Type 0} (k : K) (xs ys : List K) → Has k ys → Has k (xs ++ ys)
has_right k [] ys h = h
has_right k (x ∷ xs) ys h = inr (has_right k xs ys h)

pub has_mapped : {A K : Type 0} (f : A → K) (x : A) (xs : List A) → Has x xs → Has (f x) (map f xs)
has_mapped f x [] h = absurd h
has_mapped f x (y ∷ xs) (inl e) = inl (ap f e)
has_mapped f x (y ∷ xs) (inr h) = inr (has_mapped f x xs h)

no_parts : (a b : Bool) → (a || b) ≡ false → (a ≡ false) × (b ≡ false)
no_parts true b h = absurd cc
no_parts false b h = (refl, h)

-- where none passes a test, one that the list has doesn't
pub none_of : {K : Type 0} (test : K → Bool) (k : K) (ks : List K) → list_any test ks ≡ false → Has k ks → test k ≡ false
none_of test k [] none h = absurd h
none_of test k (j ∷ ks) none (inl e) = ap test e ∙ (no_parts (test j) (list_any test ks) none).0
none_of test k (j ∷ ks) none (inr h) = none_of test k ks (no_parts (test j) (list_any test ks) none).1 h

-- where no number below passes
pub none_below : (test : ℕ → Bool) (n z : ℕ) → some_below test n ≡ false → z < n → test z ≡ false
none_below test n z none l = by (test z) refl
  where
    by : (b : Bool) → test z ≡ b → test z ≡ false
    by true e = absurd (let h = some_in test n z l e in let d : true ≡ false = sym h ∙ none in cc)
    by false e = e
