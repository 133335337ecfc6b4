-- Entries of a list, by their numbers.
use Rattle.std.proofs.Common.{◌≡◌, ℕ, zero, suc, ◌<◌, refl, List, [], ◌∷◌, ◌++◌, length, get_or, slice_get, Some, None, arith}

pub get_missing : {A : Type 0} (xs : List A) (i : ℕ) (d : A) → slice_get xs i ≡ None → get_or xs i d ≡ d
get_missing [] i d is = refl
get_missing (x ∷ xs) zero d is = absurd cc
get_missing (x ∷ xs) (suc i) d is = get_missing xs i d is

pub get_there : {A : Type 0} (xs : List A) (i : ℕ) (x d : A) → slice_get xs i ≡ Some x → get_or xs i d ≡ x
get_there [] i x d is = absurd cc
get_there (y ∷ xs) zero x d is = cc
get_there (y ∷ xs) (suc i) x d is = get_there xs i x d is

pub got_before : {A : Type 0} (xs : List A) (x : A) (k : ℕ) → k < length xs → slice_get (xs ++ x ∷ []) k ≡ slice_get xs k
got_before [] x k h = absurd (omega (arith, h))
got_before (y ∷ xs) x zero h = refl
got_before (y ∷ xs) x (suc k) h = got_before xs x k (omega (arith, h))

pub got_last : {A : Type 0} (xs : List A) (x : A) (k : ℕ) → k ≡ length xs → slice_get (xs ++ x ∷ []) k ≡ Some x
got_last [] x zero e = refl
got_last [] x (suc k) e = absurd (omega (arith, e))
got_last (y ∷ xs) x zero e = absurd (omega (arith, e))
got_last (y ∷ xs) x (suc k) e = got_last xs x k (omega (arith, e))
