-- The first value from a place on.
use Rattle.std.proofs.Common.{◌≡◌, ℕ, zero, suc, List, [], ◌∷◌, drop, Some, None, refl}
use Rattle.std.specs.Prelude.{slice_get}
use Rattle.rc_core.specs.Heap.{Value, Null}
use Rattle.rc_values.specs.Objects.{first_of}

pub first_there : (xs : List Value) (i : ℕ) (v : Value) → slice_get xs i ≡ Some v → first_of (drop i xs) ≡ v
first_there [] zero v is = absurd cc
first_there [] (suc i) v is = absurd cc
first_there (x ∷ xs) zero v is = cc
first_there (x ∷ xs) (suc i) v is = first_there xs i v is

pub first_missing : (xs : List Value) (i : ℕ) → slice_get xs i ≡ None → first_of (drop i xs) ≡ Null
first_missing [] zero is = refl
first_missing [] (suc i) is = refl
first_missing (x ∷ xs) zero is = absurd cc
first_missing (x ∷ xs) (suc i) is = first_missing xs i is
