-- A function of region code has no more regions and pointers among its locals than region variables.
use Rattle.std.proofs.Common.{◌≡◌, ◌≤◌, ℕ, suc, ◌+◌, true, false, List, [], ◌∷◌, length, refl, sym, ap, ◌∙◌, arith}
use Rattle.std.specs.Prelude.{count_by, cond, slice_get, Some, IsTrue}
use Rattle.std.proofs.lemmas.List.Sums.{sum_by-cons, sum_by-take-drop}
use Rattle.rc_core.specs.Types.{Ty, int, unsigned, char, region, struct, pointer}
use Rattle.rc_core.specs.Programs.{Struct}
use Rattle.rc_core.specs.WellTyped.{IsVariable}
use Rattle.rc_rlang.specs.RegionCode.{Routine}
use Rattle.rc_rlang.specs.RegionRuns.{pins_from}
use Rattle.rc_rlang.specs.RegionVariables.{routine_variables}
use Rattle.rc_core.specs.Typing.{is_reference}
use Rattle.rc_live.specs.Rows.{numbered}

numbered_from : (structs : List Struct) (types : List Ty) (base : ℕ) → ((x : ℕ) (ty : Ty) → slice_get types x ≡ Some ty → IsVariable structs ty) → length (pins_from types base (λ x. true)) ≡ count_by is_reference types
numbered_from structs [] base v = refl
numbered_from structs (ty ∷ types) base v = by ty (v 0 ty refl) (numbered_from structs types (suc base) (λ x t e. v (suc x) t e)) ∙ sym (sum_by-cons (λ t. cond (is_reference t) 1 0) ty types)
  where
    no_struct : IsTrue false → ⊥
    no_struct h = cc

    by : (t : Ty) → IsVariable structs t → length (pins_from types (suc base) (λ x. true)) ≡ count_by is_reference types → length (pins_from (t ∷ types) base (λ x. true)) ≡ cond (is_reference t) 1 0 + count_by is_reference types
    by int v e = e ∙ omega arith
    by unsigned v e = e ∙ omega arith
    by char v e = e ∙ omega arith
    by region v e = ap suc e ∙ omega arith
    by (struct number) v e = absurd (no_struct v.1)
    by (pointer note target) v e = ap suc e ∙ omega arith

pub numbered_are_few : (structs : List Struct) (f : Routine) → ((x : ℕ) (ty : Ty) → slice_get f.locals x ≡ Some ty → IsVariable structs ty) → routine_variables f ≤ 128 → length (numbered f.locals) ≤ 128
numbered_are_few structs f v l =
    let n = numbered_from structs f.locals 0 v in
    let c = sum_by-take-drop (λ t. cond (is_reference t) 1 0) f.locals f.parameters in
    omega (arith, l, n, c)
