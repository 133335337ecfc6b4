-- Points of lists, one element after another from the front.
use Rattle.std.proofs.Common.{◌≡◌, ◌<◌, ◌≤◌, ◌+◌, ℕ, zero, suc, refl, ap, sym, ◌∙◌, arith, List, [], ◌∷◌, length, drop, get_or}
use Rattle.std.proofs.Math.Seq.{drop-cons}
use Rattle.std.specs.declared.vec.Vec.{Vec}
use Rattle.std.specs.declared.alloc.Global.{Global as Alloc}
use Rattle.rc_core.specs.declared.ty.Ty.{Ty as CodeTy}
use Rattle.rc_core.specs.Programs.{Struct}
use Rattle.rc_rlang.specs.declared.steps.Step.{Step as CodeStep, Fork}
use Rattle.rc_rlang.specs.declared.code.Code.{Code as CodeCode}
use Rattle.rc_rlang.specs.RegionPoints.{step_points, steps_points, code_points, codes_points}
use Rattle.rc_rlang.specs.Shapes.{step_of, steps_of, code_of, codes_of}
use Rattle.rc_rlang.proofs.CodeRows.{fork_is}

module _ {X : Type 0} (one : X → ℕ) (total : List X → ℕ) (unfolds : (x : X) (xs : List X) → total (x ∷ xs) ≡ one x + total xs) where
  total_step : (xs : List X) (i : ℕ) (x : X) → i < length xs → x ≡ get_or xs i x → total (drop i xs) ≡ one x + total (drop (i + 1) xs)
  total_step xs i x h e =
      ap total (drop-cons xs i x h) ∙ ap (λ y. total (y ∷ drop (suc i) xs)) (sym e) ∙ unfolds x (drop (suc i) xs) ∙ ap (λ j. one x + total (drop j xs)) (let k : suc i ≡ i + 1 = omega arith in k)

total_end : {X : Type 0} (total : List X → ℕ) (xs : List X) (i : ℕ) → length xs ≤ i → total (drop i xs) ≡ total []
total_end total [] zero h = refl
total_end total [] (suc i) h = refl
total_end total (x ∷ xs) zero h = absurd (omega arith)
total_end total (x ∷ xs) (suc i) h = total_end total xs i (omega arith)

pub steps_step : (structs : List Struct) (xs : List CodeStep) (i : ℕ) (x : CodeStep) → i < length xs → x ≡ get_or xs i x → steps_points (steps_of structs (drop i xs)) ≡ step_points (step_of structs x) + steps_points (steps_of structs (drop (i + 1) xs))
steps_step structs = total_step (λ s. step_points (step_of structs s)) (λ ss. steps_points (steps_of structs ss)) (λ s ss. refl)

pub steps_end : (structs : List Struct) (xs : List CodeStep) (i : ℕ) → length xs ≤ i → steps_points (steps_of structs (drop i xs)) ≡ 0
steps_end structs = total_end (λ ss. steps_points (steps_of structs ss))

pub codes_step : (structs : List Struct) (xs : List CodeCode) (i : ℕ) (x : CodeCode) → i < length xs → x ≡ get_or xs i x → codes_points (codes_of structs (drop i xs)) ≡ code_points (code_of structs x) + codes_points (codes_of structs (drop (i + 1) xs))
codes_step structs = total_step (λ c. code_points (code_of structs c)) (λ cs. codes_points (codes_of structs cs)) (λ c cs. refl)

pub codes_end : (structs : List Struct) (xs : List CodeCode) (i : ℕ) → length xs ≤ i → codes_points (codes_of structs (drop i xs)) ≡ 0
codes_end structs = total_end (λ cs. codes_points (codes_of structs cs))

pub fork_points : (structs : List Struct) (s : CodeStep) (line h : ℕ) (test result : CodeTy) (a b : Vec CodeStep Alloc) → s ≡ Fork line h test result a b →
    step_points (step_of structs s) ≡ 1 + steps_points (steps_of structs a.items) + steps_points (steps_of structs b.items)
fork_points structs s line h test result a b e = ap step_points (fork_is structs s line h test result a b e)
