-- Lists that grow at their end.
use Rattle.std.proofs.Common.{◌≡◌, refl, ap, List, [], ◌∷◌, ◌++◌, map, Result, Ok, Err, OnOk}
use Rattle.std.proofs.lemmas.List.{map-append}

pub map_push : {A B : Type 0} (f : A → B) (xs : List A) (x : A) → map f (xs ++ x ∷ []) ≡ map f xs ++ f x ∷ []
map_push f xs x = map-append f xs (x ∷ [])

pub no_strings : {A : Type 0} (xs : List A) → xs ≡ xs ++ []
no_strings [] = refl
no_strings (x ∷ xs) = ap (λ ys. x ∷ ys) (no_strings xs)

-- two facts of a result that is Ok, and what follows of both
pub on_both : {A E : Type 0} {P Q R : Type 0} (r : Result A E) → OnOk r P → OnOk r Q → (P → Q → R) → OnOk r R
on_both (Ok a) p q f = f p q
on_both (Err e) p q f = tt

pub on_any : {A E P : Type 0} (r : Result A E) → P → OnOk r P
on_any (Ok a) p = p
on_any (Err e) p = tt

-- what follows of a fact of a result that is Ok
pub on_then : {A E : Type 0} {P Q : Type 0} (r : Result A E) → OnOk r P → (P → Q) → OnOk r Q
on_then (Ok a) p f = f p
on_then (Err e) p f = tt
