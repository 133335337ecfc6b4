-- What holds of the elements of a list, which are numbered from a place on.
use Rattle.std.proofs.Common.{◌≡◌, ℕ, zero, suc, ◌+◌, ◌<◌, List, [], ◌∷◌, ◌++◌, length, Option, Some, None, refl, ap, ◌∙◌, subst, arith}
use Rattle.std.specs.Prelude.{slice_get, replicate}

abbrev pub Each : {A : Type 0} → (ℕ → A → Type 0) → (here : ℕ) → List A → Type 0
Each P here [] = Unit {0}
Each P here (x ∷ xs) = P here x × Each P (suc here) xs

pub front : {A : Type 0} (P : ℕ → A → Type 0) (here : ℕ) (xs ys : List A) → Each P here (xs ++ ys) → Each P here xs
front P here [] ys e = tt
front P here (x ∷ xs) ys e = (e.0, front P (suc here) xs ys e.1)

pub rest : {A : Type 0} (P : ℕ → A → Type 0) (here n : ℕ) (xs ys : List A) → length xs ≡ n → Each P here (xs ++ ys) → Each P (here + n) ys
rest P here n [] ys l e = subst (λ i. Each P i ys) (let k : here ≡ here + n = omega (arith, l) in k) e
rest P here zero (x ∷ xs) ys l e = absurd (omega (arith, l))
rest P here (suc n) (x ∷ xs) ys l e = subst (λ i. Each P i ys) (let k : suc here + n ≡ here + suc n = omega arith in k) (rest P (suc here) n xs ys (omega (arith, l)) e.1)

pub join : {A : Type 0} (P : ℕ → A → Type 0) (here n : ℕ) (xs ys : List A) → length xs ≡ n → Each P here xs → Each P (here + n) ys → Each P here (xs ++ ys)
join P here n [] ys l e d = subst (λ i. Each P i ys) (let k : here + n ≡ here = omega (arith, l) in k) d
join P here zero (x ∷ xs) ys l e d = absurd (omega (arith, l))
join P here (suc n) (x ∷ xs) ys l e d = (e.0, join P (suc here) n xs ys (omega (arith, l)) e.1 (subst (λ i. Each P i ys) (let k : here + suc n ≡ suc here + n = omega arith in k) d))

pub at : {A : Type 0} (P : ℕ → A → Type 0) (here : ℕ) (xs : List A) → Each P here xs → (i : ℕ) (x : A) → slice_get xs i ≡ Some x → P (here + i) x
at P here [] e i x g = absurd (none_some g)
  where
    none_some : None ≡ Some x → ⊥
    none_some h = cc
at P here (y ∷ ys) e zero x g = subst (λ i. P i x) (let k : here ≡ here + 0 = omega arith in k) (subst (λ z. P here z) (same g) e.0)
  where
    same : Some y ≡ Some x → y ≡ x
    same h = cc
at P here (y ∷ ys) e (suc i) x g = subst (λ i. P i x) (let k : suc here + i ≡ here + suc i = omega arith in k) (at P (suc here) ys e.1 i x g)

stands_from : {A : Type 0} (of : ℕ → Option A) (here : ℕ) (xs : List A) → ((i : ℕ) → of (here + i) ≡ slice_get xs i) → Each (λ n x. of n ≡ Some x) here xs
stands_from of here [] e = tt
stands_from of here (x ∷ xs) e = (ap of (let k : here ≡ here + 0 = omega arith in k) ∙ e 0, stands_from of (suc here) xs (λ i. ap of (let k : suc here + i ≡ here + suc i = omega arith in k) ∙ e (suc i)))

-- each element of a list stands in it
pub stands : {A : Type 0} (xs : List A) → Each (λ n x. slice_get xs n ≡ Some x) 0 xs
stands xs = stands_from (λ n. slice_get xs n) 0 xs (λ i. ap (λ n. slice_get xs n) (let k : 0 + i ≡ i = omega arith in k))

-- a list that is long enough has an element there
pub there : {A : Type 0} (xs : List A) (i : ℕ) → i < length xs → (x : A) × (slice_get xs i ≡ Some x)
there [] i l = absurd (omega (arith, l))
there (x ∷ xs) zero l = (x, refl)
there (x ∷ xs) (suc i) l = there xs i (omega (arith, l))

pub repeated : {A : Type 0} (n : ℕ) (x : A) → length (replicate n x) ≡ n
repeated zero x = refl
repeated (suc n) x = ap suc (repeated n x)
