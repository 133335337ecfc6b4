-- Stubs behind those before them.
use Rattle.std.proofs.Common.{◌≡◌, ◌<◌, ◌≤◌, ◌+◌, ℕ, suc, List, [], ◌∷◌, ◌++◌, refl, ap, sym, ◌∙◌, length, drop, map, arith}
use Rattle.std.specs.Prelude.{get_or}
use Rattle.std.proofs.lemmas.List.{append-nil}
use Rattle.rc_syntax.specs.declared.tree.Param.{Param}
use Rattle.rc_syntax.specs.Shape.{param_of}
use Rattle.rc_linking.specs.Stubs.{stub_param, stub_params}
use Rattle.rc_defined.proofs.Walks.{front, none_left}

module _ (line : ℕ) (params : List Param) (stubbed : List Param) (k : ℕ) where
  pub params_step : (q stub : Param) → k < length params → q ≡ get_or params k q → param_of stub ≡ stub_param line k (param_of q) →
      map param_of stubbed ++ stub_params line k (map param_of (drop k params)) ≡ map param_of (stubbed ++ stub ∷ []) ++ stub_params line (k + 1) (map param_of (drop (k + 1) params))
  params_step q stub l h same =
      let rest = λ (j : ℕ). stub_params line j (map param_of (drop (k + 1) params)) in
      let next : suc k ≡ k + 1 = omega arith in
      ap (λ xs. map param_of stubbed ++ stub_params line k (map param_of xs)) (front params k q l h)
      ∙ ap (λ x. map param_of stubbed ++ x ∷ rest (suc k)) (sym same) ∙ ap (λ j. map param_of stubbed ++ param_of stub ∷ rest j) next ∙ behind stubbed
    where
      behind : (xs : List Param) → map param_of xs ++ param_of stub ∷ stub_params line (k + 1) (map param_of (drop (k + 1) params)) ≡ map param_of (xs ++ stub ∷ []) ++ stub_params line (k + 1) (map param_of (drop (k + 1) params))
      behind [] = refl
      behind (x ∷ xs) = ap (λ ys. param_of x ∷ ys) (behind xs)

  pub params_end : length params ≤ k → map param_of stubbed ++ stub_params line k (map param_of (drop k params)) ≡ map param_of stubbed
  params_end l = ap (λ xs. map param_of stubbed ++ stub_params line k (map param_of xs)) (none_left params k l) ∙ append-nil (map param_of stubbed)
