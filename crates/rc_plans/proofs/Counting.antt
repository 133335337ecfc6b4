-- Parts of code one after another.
use Rattle.std.proofs.Common.{◌≡◌, ◌<◌, ◌≤◌, ◌-◌, ℕ, zero, suc, List, [], ◌∷◌, length, drop, get_or, sym, ap, ◌∙◌, arith}
use Rattle.std.specs.Prelude.{Result, Ok, Err, IfOk}
use Rattle.std.proofs.Math.Seq.{drop-cons}
use Rattle.rc_core.specs.Programs.{Struct}
use Rattle.rc_rlang.specs.declared.steps.Step.{Step as CodeStep}
use Rattle.rc_rlang.specs.declared.code.Code.{Code as CodeCode}
use Rattle.rc_rlang.specs.RegionCode.{more, then}
use Rattle.rc_rlang.specs.RegionPoints.{code_points, codes_points}
use Rattle.rc_rlang.specs.Shapes.{step_of, steps_of, code_of, codes_of}

pub steps_from : (structs : List Struct) (xs : List CodeStep) (i : ℕ) (x : CodeStep) → i < length xs → x ≡ get_or xs i x → steps_of structs (drop i xs) ≡ more (step_of structs x) (steps_of structs (drop (suc i) xs))
steps_from structs xs i x l e = ap (steps_of structs) (drop-cons xs i x l) ∙ ap (λ y. more (step_of structs y) (steps_of structs (drop (suc i) xs))) (sym e)

codes_from : (structs : List Struct) (xs : List CodeCode) (i : ℕ) (x : CodeCode) → i < length xs → x ≡ get_or xs i x → codes_of structs (drop i xs) ≡ then (code_of structs x) (codes_of structs (drop (suc i) xs))
codes_from structs xs i x l e = ap (codes_of structs) (drop-cons xs i x l) ∙ ap (λ y. then (code_of structs y) (codes_of structs (drop (suc i) xs))) (sym e)

codes_last : (structs : List Struct) (xs : List CodeCode) (i : ℕ) (x : CodeCode) → 0 < i → i ≤ length xs → x ≡ get_or xs (i - 1) x → codes_of structs (drop (i - 1) xs) ≡ then (code_of structs x) (codes_of structs (drop i xs))
codes_last structs xs i x p l e = codes_from structs xs (i - 1) x (omega (arith, p, l)) e ∙ ap (λ j. then (code_of structs x) (codes_of structs (drop j xs))) (let k : suc (i - 1) ≡ i = omega (arith, p) in k)

pub ok_more : {A E : Type 0} (r : Result A E) (P Q : A → Type 0) → ((a : A) → P a → Q a) → IfOk r P → IfOk r Q
ok_more (Ok a) P Q h p = h a p
ok_more (Err e) P Q h p = p

-- statements behind have fewer points
fewer_behind : (structs : List Struct) (xs : List CodeCode) (j k : ℕ) → j ≤ k → codes_points (codes_of structs (drop k xs)) ≤ codes_points (codes_of structs (drop j xs))
fewer_behind structs [] zero zero l = omega arith
fewer_behind structs [] zero (suc k) l = omega arith
fewer_behind structs [] (suc j) zero l = absurd (omega (arith, l))
fewer_behind structs [] (suc j) (suc k) l = omega arith
fewer_behind structs (x ∷ xs) zero zero l = omega arith
fewer_behind structs (x ∷ xs) zero (suc k) l = let h = fewer_behind structs xs zero k (omega arith) in omega (arith, h)
fewer_behind structs (x ∷ xs) (suc j) zero l = absurd (omega (arith, l))
fewer_behind structs (x ∷ xs) (suc j) (suc k) l = fewer_behind structs xs j k (omega (arith, l))

pub busy_before : (structs : List Struct) (xs : List CodeCode) (i own j : ℕ) (x : CodeCode) → 0 < i → i ≤ length xs → x ≡ get_or xs (i - 1) x → own ≡ code_points (code_of structs x) → (own ≡ 0 → ⊥) → j < i → codes_points (codes_of structs (drop j xs)) ≡ 0 → ⊥
busy_before structs xs i own j x p l e o some lt z =
    let there = ap codes_points (codes_last structs xs i x p l e) in
    let fewer = fewer_behind structs xs j (i - 1) (omega (arith, lt)) in
    some (omega (arith, there, fewer, o, z))

pub idle_before : (structs : List Struct) (xs : List CodeCode) (i own j : ℕ) (x : CodeCode) → 0 < i → i ≤ length xs → x ≡ get_or xs (i - 1) x → own ≡ code_points (code_of structs x) → own ≡ 0 → ((j : ℕ) → i ≤ j → codes_points (codes_of structs (drop j xs)) ≡ 0) → i - 1 ≤ j → codes_points (codes_of structs (drop j xs)) ≡ 0
idle_before structs xs i own j x p l e o empty idle le =
    let there = ap codes_points (codes_last structs xs i x p l e) in
    let fewer = fewer_behind structs xs (i - 1) j le in
    let rest = idle i (omega arith) in
    omega (arith, there, fewer, o, empty, rest)
