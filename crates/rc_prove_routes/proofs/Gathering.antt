-- What is known of each of a list, to which one more is put.
use Rattle.std.proofs.Common.{◌≡◌, ◌∙◌, ℕ, zero, suc, ◌+◌, ◌<◌, List, [], ◌∷◌, ◌++◌, length, get_or, slice_get, Some, refl, sym, ap, subst, arith, length-append}
use Rattle.std.specs.List.{All}
use Rattle.std.proofs.lemmas.Option.{slice_get-get_or}

one_is : {X : Type 0} (x y : X) → Some x ≡ Some y → x ≡ y
one_is x y e = cc

put_one : {X : Type 0} (P : ℕ → X → Type 0) (xs : List X) (x : X) → ((i : ℕ) (y : X) → slice_get xs i ≡ Some y → P i y) → P (length xs) x → (i : ℕ) (y : X) → slice_get (xs ++ x ∷ []) i ≡ Some y → P i y
put_one P [] x old new zero y is = subst (P 0) (one_is x y is) new
put_one P [] x old new (suc i) y is = cc
put_one P (z ∷ xs) x old new zero y is = old zero y is
put_one P (z ∷ xs) x old new (suc i) y is = put_one (λ k. P (suc k)) xs x (λ k w e. old (suc k) w e) new i y is

pub each_none : {X : Type 0} (P : ℕ → X → Type 0) (xs : List X) → xs ≡ [] → (i : ℕ) (y : X) → slice_get xs i ≡ Some y → P i y
each_none P xs none i y is = let e : slice_get [] i ≡ Some y = subst (λ ys. slice_get ys i ≡ Some y) none is in cc

pub each_more : {X : Type 0} (P : ℕ → X → Type 0) (xs new : List X) (x : X) (k : ℕ) → new ≡ xs ++ x ∷ [] → length xs ≡ k → P k x → ((i : ℕ) (y : X) → slice_get xs i ≡ Some y → P i y) → (i : ℕ) (y : X) → slice_get new i ≡ Some y → P i y
each_more P xs new x k e long is old i y at = put_one P xs x old (subst (λ j. P j x) (sym long) is) i y (subst (λ ys. slice_get ys i ≡ Some y) e at)

pub long_more : {X : Type 0} (xs new : List X) (x : X) (k : ℕ) → new ≡ xs ++ x ∷ [] → length xs ≡ k → length new ≡ k + 1
long_more xs new x k e long = ap length e ∙ length-append xs (x ∷ []) ∙ (let l = long in omega (arith, l))

pub there : {X : Type 0} (xs : List X) (i : ℕ) → i < length xs → (x : X) × (slice_get xs i ≡ Some x)
there [] i lt = absurd (omega (arith, lt))
there (x ∷ xs) zero lt = (x, refl)
there (x ∷ xs) (suc i) lt = there xs i (omega (arith, lt))

pub all_of : {X : Type 0} (P : X → Type 0) (xs : List X) → ((i : ℕ) (x : X) → i < length xs → slice_get xs i ≡ Some x → P x) → All P xs
all_of P xs each i d lt = each i (get_or xs i d) lt (slice_get-get_or xs i d lt)
