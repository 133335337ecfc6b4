-- Pins stand in order, each once, and each names a local that is a region or a pointer.
use Rattle.std.proofs.Common.{◌≡◌, ◌≤◌, ◌<◌, ℕ, suc, Bool, true, false, List, [], ◌∷◌, ◌++◌, length, refl, ap, ◌∙◌, subst, arith}
use Rattle.std.specs.Prelude.{get_or}
use Rattle.rc_core.specs.Types.{Ty, int}
use Rattle.rc_stack_rules.specs.LoaderRules.{Pins}
use Rattle.rc_rlang.specs.RegionCode.{Kind, numeric, regional, kind_of}
use Rattle.rc_rlang.specs.RegionRuns.{pin_when, pins_from}

later : (locals : List Ty) (x : ℕ) (ys : List ℕ) → Pins locals (suc x) ys → Pins locals x ys
later locals x [] p = tt
later locals x (y ∷ ys) p = let a = p.0 in ((let e : x ≤ y = omega (arith, a) in e), p.1, p.2, p.3)

get_here : (a : List Ty) (ty : Ty) (b : List Ty) → get_or (a ++ ty ∷ b) (length a) int ≡ ty
get_here [] ty b = refl
get_here (x ∷ a) ty b = get_here a ty b

pins_from_fit : (before tys : List Ty) (x : ℕ) (live : ℕ → Bool) → x ≡ length before → Pins (before ++ tys) x (pins_from tys x live)
pins_from_fit before [] x live e = tt
pins_from_fit before (ty ∷ tys) x live e =
    by (kind_of ty) refl (live x) (subst (λ l. Pins l (suc x) (pins_from tys (suc x) live)) (grouped before ty tys) (pins_from_fit (before ++ ty ∷ []) tys (suc x) live (let l = long before ty in omega (arith, e, l))))
  where
    grouped : (a : List Ty) (ty : Ty) (b : List Ty) → (a ++ ty ∷ []) ++ b ≡ a ++ ty ∷ b
    grouped [] ty b = refl
    grouped (z ∷ a) ty b = ap (λ l. z ∷ l) (grouped a ty b)

    long : (a : List Ty) (ty : Ty) → length (a ++ ty ∷ []) ≡ suc (length a)
    long [] ty = refl
    long (z ∷ a) ty = ap suc (long a ty)

    inside : (a : List Ty) (ty : Ty) (b : List Ty) → length a < length (a ++ ty ∷ b)
    inside [] ty b = omega arith
    inside (z ∷ a) ty b = let r = inside a ty b in omega (arith, r)

    by : (k : Kind) → kind_of ty ≡ k → (b : Bool) → Pins (before ++ ty ∷ tys) (suc x) (pins_from tys (suc x) live) → Pins (before ++ ty ∷ tys) x (pin_when k b x (pins_from tys (suc x) live))
    by regional ek true p = let i = inside before ty tys in ((let f : x ≤ x = omega arith in f), (let f : x < length (before ++ ty ∷ tys) = omega (arith, e, i) in f), (ap (λ n. kind_of (get_or (before ++ ty ∷ tys) n int)) e ∙ ap kind_of (get_here before ty tys) ∙ ek), p)
    by regional ek false p = later (before ++ ty ∷ tys) x (pins_from tys (suc x) live) p
    by numeric ek b p = later (before ++ ty ∷ tys) x (pins_from tys (suc x) live) p

pub pins_fit : (tys : List Ty) (live : ℕ → Bool) → Pins tys 0 (pins_from tys 0 live)
pins_fit tys live = pins_from_fit [] tys 0 live refl
