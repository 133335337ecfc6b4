-- Where values have their locals' kinds, what is held by value is what is held by type.
use Rattle.std.proofs.Common.{◌≡◌, ℕ, suc, Bool, true, false, List, [], ◌∷◌, refl, sym, ap, ◌∙◌}
use Rattle.rc_core.specs.Types.{Ty}
use Rattle.rc_core.specs.Heap.{Value, Number, Null, Handle, Pointer}
use Rattle.rc_core.specs.Evaluation.{local_at}
use Rattle.rc_core.specs.Execution.{held, held_value}
use Rattle.rc_rlang.specs.RegionCode.{Kind, numeric, regional, kind_of}
use Rattle.rc_rlang.specs.RegionRuns.{pin_when, pins_from, pinned}

abbrev pub OfKind : Kind → Value → Type 0
OfKind numeric (Number n) = Unit {0}
OfKind numeric v = ⊥
OfKind regional (Number n) = ⊥
OfKind regional v = Unit {0}

abbrev pub Kinded : List Ty → List Value → Type 0
Kinded [] [] = Unit {0}
Kinded [] (v ∷ vs) = ⊥
Kinded (ty ∷ tys) [] = ⊥
Kinded (ty ∷ tys) (v ∷ vs) = OfKind (kind_of ty) v × Kinded tys vs

shifted : (tys : List Ty) (x : ℕ) (live : ℕ → Bool) (v : Value) (env : List Value) → pinned (pins_from tys (suc x) live) (v ∷ env) ≡ pinned (pins_from tys x (λ y. live (suc y))) env
shifted [] x live v env = refl
shifted (ty ∷ tys) x live v env = by (kind_of ty) (live (suc x)) (shifted tys (suc x) live v env)
  where
    by : (k : Kind) (b : Bool) → pinned (pins_from tys (suc (suc x)) live) (v ∷ env) ≡ pinned (pins_from tys (suc x) (λ y. live (suc y))) env →
        pinned (pin_when k b (suc x) (pins_from tys (suc (suc x)) live)) (v ∷ env) ≡ pinned (pin_when k b x (pins_from tys (suc x) (λ y. live (suc y)))) env
    by regional true e = ap (λ vs. local_at env x ∷ vs) e
    by regional false e = e
    by numeric b e = e

pub held_is : (tys : List Ty) (env : List Value) (live : ℕ → Bool) → Kinded tys env → held live env ≡ pinned (pins_from tys 0 live) env
held_is [] [] live k = refl
held_is [] (v ∷ env) live k = absurd k
held_is (ty ∷ tys) [] live k = absurd k
held_is (ty ∷ tys) (v ∷ env) live k = by (kind_of ty) (live 0) v k.0 (held_is tys env (λ x. live (suc x)) k.1 ∙ sym (shifted tys 0 live v env))
  where
    by : (kd : Kind) (b : Bool) (v : Value) → OfKind kd v → held (λ x. live (suc x)) env ≡ pinned (pins_from tys 1 live) (v ∷ env) → held_value b v (held (λ x. live (suc x)) env) ≡ pinned (pin_when kd b 0 (pins_from tys 1 live)) (v ∷ env)
    by numeric true (Number n) o e = e
    by numeric false (Number n) o e = e
    by numeric b Null o e = absurd o
    by numeric b (Handle r) o e = absurd o
    by numeric b (Pointer a) o e = absurd o
    by regional b (Number n) o e = absurd o
    by regional true Null o e = ap (λ vs. Null ∷ vs) e
    by regional true (Handle r) o e = ap (λ vs. Handle r ∷ vs) e
    by regional true (Pointer a) o e = ap (λ vs. Pointer a ∷ vs) e
    by regional false Null o e = e
    by regional false (Handle r) o e = e
    by regional false (Pointer a) o e = e
