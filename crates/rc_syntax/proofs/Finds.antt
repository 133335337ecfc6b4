-- A loop that looks for the first element that passes.
use Rattle.std.proofs.Common.{ℕ, zero, suc, ◌≡◌, ◌<◌, ◌≤◌, ◌+◌, List, [], ◌∷◌, length, drop, get_or, find, Some, None, Bool, true, false, refl, ap, ◌∙◌, arith}

pub find_step : {X : Type 0} (p : X → Bool) (xs : List X) (i : ℕ) (d : X) → i < length xs → p (get_or xs i d) ≡ false → find p (drop i xs) ≡ find p (drop (i + 1) xs)
find_step p [] i d h e = absurd (omega arith)
find_step p (x ∷ xs) zero d h e = rw e refl
find_step p (x ∷ xs) (suc i) d h e = find_step p xs i d (omega arith) e ∙ (let k : suc (i + 1) ≡ suc i + 1 = omega arith in ap (λ j. find p (drop j (x ∷ xs))) k)

pub find_here : {X : Type 0} (p : X → Bool) (xs : List X) (i : ℕ) (d : X) → i < length xs → p (get_or xs i d) ≡ true → find p (drop i xs) ≡ Some (get_or xs i d)
find_here p [] i d h e = absurd (omega arith)
find_here p (x ∷ xs) zero d h e = rw e refl
find_here p (x ∷ xs) (suc i) d h e = find_here p xs i d (omega arith) e

pub find_past : {X : Type 0} (p : X → Bool) (xs : List X) (i : ℕ) → length xs ≤ i → find p (drop i xs) ≡ None
find_past p [] zero h = refl
find_past p [] (suc i) h = refl
find_past p (x ∷ xs) zero h = absurd (omega arith)
find_past p (x ∷ xs) (suc i) h = find_past p xs i (omega arith)
