-- The first element of a list, and the others.
use Rattle.std.proofs.Common.{◌≡◌, ◌<◌, ◌≤◌, ◌-◌, refl, ap, sym, ◌∙◌, arith, List, [], ◌∷◌, length, take, drop}
use Rattle.std.specs.Prelude.{get_or}

take_all : {X : Type 0} (xs : List X) → take (length xs) xs ≡ xs
take_all [] = refl
take_all (x ∷ xs) = ap (λ ys. x ∷ ys) (take_all xs)

abbrev pub tail : {X : Type 0} → List X → List X
tail xs = take (length xs - 1) (drop 1 xs)

pub split : {X : Type 0} (xs : List X) (x : X) → 1 ≤ length xs → x ≡ get_or xs 0 x → xs ≡ x ∷ tail xs
split [] x h e = absurd (omega arith)
split (y ∷ ys) x h e = ap (λ z. z ∷ ys) (sym e) ∙ ap (λ zs. x ∷ zs) (sym (ap (λ n. take n ys) (let k : length (y ∷ ys) - 1 ≡ length ys = omega arith in k) ∙ take_all ys))

pub nothing_left : {X : Type 0} (xs : List X) → length xs < 1 → xs ≡ []
nothing_left [] h = refl
nothing_left (x ∷ xs) h = absurd (omega arith)
