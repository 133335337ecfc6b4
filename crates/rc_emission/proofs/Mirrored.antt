-- A machine's locals: those of the source come first.
use Rattle.std.proofs.Common.{◌≡◌, ◌≢◌, ◌<◌, ◌≤◌, ℕ, zero, suc, List, [], ◌∷◌, length, refl, ap, ◌∙◌, arith}
use Rattle.rc_core.specs.Types.{Ty, int, unsigned, char, region, struct, pointer}
use Rattle.rc_core.specs.Heap.{Value}
use Rattle.rc_core.specs.Evaluation.{local_at}
use Rattle.rc_core.specs.Execution.{with_local}
use Rattle.rc_rlang.specs.RegionRuns.{kept}
use Rattle.rc_emission.specs.OperationCode.{wide}
use Rattle.rc_emission.specs.Pieces.{Mirrored}

pub get_same : (xs : List Value) (i : ℕ) (v : Value) → i < length xs → local_at (with_local xs i v) i ≡ v
get_same [] i v lt = absurd (omega (arith, lt))
get_same (x ∷ xs) zero v lt = refl
get_same (x ∷ xs) (suc i) v lt = get_same xs i v (omega (arith, lt))

pub get_other : (xs : List Value) (i j : ℕ) (v : Value) → i ≢ j → local_at (with_local xs i v) j ≡ local_at xs j
get_other [] i j v ne = refl
get_other (x ∷ xs) zero zero v ne = absurd (ne refl)
get_other (x ∷ xs) zero (suc j) v ne = refl
get_other (x ∷ xs) (suc i) zero v ne = refl
get_other (x ∷ xs) (suc i) (suc j) v ne = get_other xs i j v (λ e. ne (ap suc e))

pub length_with : (xs : List Value) (i : ℕ) (v : Value) → length (with_local xs i v) ≡ length xs
length_with [] i v = refl
length_with (x ∷ xs) zero v = refl
length_with (x ∷ xs) (suc i) v = ap suc (length_with xs i v)

pub kept_wide : (ty : Ty) (v : Value) → kept (wide ty) v ≡ v
kept_wide int v = refl
kept_wide unsigned v = refl
kept_wide char v = refl
kept_wide region v = refl
kept_wide (struct k) v = refl
kept_wide (pointer note target) v = refl

pub mirrors_assign : (l n : ℕ) (env locals : List Value) (x : ℕ) (v : Value) → l ≤ n → Mirrored l n env locals → Mirrored l n (with_local env x v) (with_local locals x v)
mirrors_assign l n env locals x v le m = record {
  long = length_with locals x v ∙ m.long;
  whole = length_with env x v ∙ m.whole;
  same = λ y lt. let a = m.long in let b = m.whole in both env locals x y (omega (arith, b, lt)) (omega (arith, a, le, lt)) (m.same y lt);
}
  where
    both : (env locals : List Value) (x y : ℕ) → y < length env → y < length locals → local_at locals y ≡ local_at env y → local_at (with_local locals x v) y ≡ local_at (with_local env x v) y
    both [] locals x y lt lt1 e = absurd (omega (arith, lt))
    both (u ∷ env) [] x y lt lt1 e = absurd (omega (arith, lt1))
    both (u ∷ env) (s ∷ locals) zero zero lt lt1 e = refl
    both (u ∷ env) (s ∷ locals) zero (suc y) lt lt1 e = e
    both (u ∷ env) (s ∷ locals) (suc x) zero lt lt1 e = e
    both (u ∷ env) (s ∷ locals) (suc x) (suc y) lt lt1 e = both env locals x y (omega (arith, lt)) (omega (arith, lt1)) e
