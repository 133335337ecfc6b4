-- Stops of the first instructions.
use Rattle.std.proofs.Common.{◌≡◌, ◌∙◌, ℕ, zero, suc, ◌+◌, ◌<◌, List, [], ◌∷◌, ◌++◌, map, take, length, get_or, refl, sym, ap, arith}

more : {A B : Type 0} (f : A → B) (xs : List A) (i : ℕ) (d : A) → i < length xs → map f (take (suc i) xs) ≡ map f (take i xs) ++ f (get_or xs i d) ∷ []
more f [] i d lt = absurd (omega (arith, lt))
more f (x ∷ xs) zero d lt = refl
more f (x ∷ xs) (suc i) d lt = ap (λ ys. f x ∷ ys) (more f xs i d (omega (arith, lt)))

pub map_more : {A B : Type 0} (f : A → B) (xs : List A) (i : ℕ) (d : A) (old new : List B) (y : B) → i < length xs → y ≡ f (get_or xs i d) → old ≡ map f (take i xs) → new ≡ old ++ y ∷ [] → new ≡ map f (take (i + 1) xs)
map_more f xs i d old new y lt is before after =
    let next : suc i ≡ i + 1 = omega arith in
    after ∙ ap (λ ys. ys ++ y ∷ []) before ∙ ap (λ v. map f (take i xs) ++ v ∷ []) is ∙ sym (more f xs i d lt) ∙ ap (λ n. map f (take n xs)) next

take_all : {A : Type 0} (xs : List A) → take (length xs) xs ≡ xs
take_all [] = refl
take_all (x ∷ xs) = ap (λ ys. x ∷ ys) (take_all xs)

pub map_all : {A B : Type 0} (f : A → B) (xs : List A) (i : ℕ) (ys : List B) → i ≡ length xs → ys ≡ map f (take i xs) → ys ≡ map f xs
map_all f xs i ys e is = is ∙ ap (λ n. map f (take n xs)) e ∙ ap (map f) (take_all xs)
