-- Steps of arguments and of ways inward, one by one from the front.
use Rattle.std.proofs.Common.{◌≡◌, ◌<◌, ◌≤◌, ℕ, zero, suc, ◌+◌, List, [], ◌∷◌, ◌++◌, length, drop, map, Option, Some, None, refl, sym, ap, ◌∙◌, arith}
use Rattle.std.specs.Prelude.{get_or, slice_get, option_map}
use Rattle.std.proofs.lemmas.Option.{slice_get-map}
use Rattle.rc_core.specs.declared.ty.Ty.{Ty as CodeTy}
use Rattle.rc_core.specs.declared.expr.Expr.{Expr as CodeExpr}
use Rattle.rc_core.specs.declared.expr.PathStep.{PathStep, Field, Element}
use Rattle.rc_core.specs.Programs as from
use Rattle.rc_core.specs.Programs.{Expr, Arguments, Program}
use Rattle.rc_core.specs.Shapes.{arguments_of, expr_of, path_of, ty_of}
use Rattle.rc_core.specs.Types.{Ty}
use Rattle.rc_core.specs.Typing.{value_type}
use Rattle.rc_rlang.specs.RegionCode as to
use Rattle.rc_rlang.specs.RegionCode.{Steps, both}
use Rattle.rc_translation.proofs.Expressions.{both_assoc}
use Rattle.rc_translation.specs.Translation.{expression_type, argument_types, expression_code, arguments_code, index_type, path_code}
use Rattle.rc_region_steps.specs.Arguments.{or_own, argument_at}
use Rattle.rc_accesses.proofs.PathTypes.{front, nothing_left}

-- what is left of the parameters, from an argument on
rest_there : (tys : List Ty) (i : ℕ) (t : Ty) → slice_get tys i ≡ Some t → drop i tys ≡ t ∷ drop (suc i) tys
rest_there [] i t e = cc
rest_there (x ∷ tys) zero t e = let q : x ≡ t = cc in ap (λ y. y ∷ tys) q
rest_there (x ∷ tys) (suc i) t e = rest_there tys i t e

rest_missing : (tys : List Ty) (i : ℕ) → slice_get tys i ≡ None → (drop i tys ≡ []) × (drop (suc i) tys ≡ [])
rest_missing [] zero e = (refl, refl)
rest_missing [] (suc i) e = (refl, refl)
rest_missing (x ∷ tys) zero e = cc
rest_missing (x ∷ tys) (suc i) e = rest_missing tys i e

module _ (program : Program) (locals : List Ty) where
  one_argument : (e : Expr) (es : Arguments) (tys : List Ty) (i h : ℕ) (o : Option Ty) → slice_get tys i ≡ o →
      (arguments_code program locals (from.more e es) (drop i tys) h ≡ both (expression_code program locals e (value_type (or_own program locals e o)) h) (arguments_code program locals es (drop (suc i) tys) (suc h)))
      × (argument_types program locals (from.more e es) (drop i tys) ≡ or_own program locals e o ∷ argument_types program locals es (drop (suc i) tys))
  one_argument e es tys i h None q =
      let r = rest_missing tys i q in (
        ap (λ ts. arguments_code program locals (from.more e es) ts h) r.0 ∙ ap (λ ts. both (expression_code program locals e (value_type (expression_type program locals e)) h) (arguments_code program locals es ts (suc h))) (sym r.1),
        ap (argument_types program locals (from.more e es)) r.0 ∙ ap (λ ts. expression_type program locals e ∷ argument_types program locals es ts) (sym r.1),
      )
  one_argument e es tys i h (Some t) q =
      let r = rest_there tys i t q in (ap (λ ts. arguments_code program locals (from.more e es) ts h) r, ap (argument_types program locals (from.more e es)) r)

  pub arguments_step : (structs_steps next_steps : Steps) (xs : List CodeExpr) (tys : List Ty) (i h k : ℕ) (x : CodeExpr) → i < length xs → x ≡ get_or xs i x → k ≡ h + 1 →
      next_steps ≡ both structs_steps (expression_code program locals (expr_of x) (value_type (argument_at program locals (expr_of x) tys i)) h) →
      both structs_steps (arguments_code program locals (arguments_of (drop i xs)) (drop i tys) h) ≡ both next_steps (arguments_code program locals (arguments_of (drop (i + 1) xs)) (drop (i + 1) tys) k)
  arguments_step s n xs tys i h k x b e q d =
      let j : i + 1 ≡ suc i = omega arith in
      let m : suc h ≡ k = omega (arith, q) in
      let p = (one_argument (expr_of x) (arguments_of (drop (i + 1) xs)) tys i h (slice_get tys i) refl).0 in
      let c = expression_code program locals (expr_of x) (value_type (argument_at program locals (expr_of x) tys i)) h in
      ap (both s) (ap (λ ys. arguments_code program locals (arguments_of ys) (drop i tys) h) (front xs i x b e) ∙ p)
      ∙ sym (both_assoc s c (arguments_code program locals (arguments_of (drop (i + 1) xs)) (drop (suc i) tys) (suc h)))
      ∙ ap (λ z. both z (arguments_code program locals (arguments_of (drop (i + 1) xs)) (drop (suc i) tys) (suc h))) (sym d)
      ∙ ap (λ g. both n (arguments_code program locals (arguments_of (drop (i + 1) xs)) (drop g tys) (suc h))) (sym j)
      ∙ ap (λ g. both n (arguments_code program locals (arguments_of (drop (i + 1) xs)) (drop (i + 1) tys) g)) m

  pub types_step : (given : List CodeTy) (xs : List CodeExpr) (tys : List Ty) (i : ℕ) (x : CodeExpr) (t : CodeTy) (next : List CodeTy) → i < length xs → x ≡ get_or xs i x → ty_of t ≡ argument_at program locals (expr_of x) tys i → next ≡ given ++ t ∷ [] →
      map ty_of given ++ argument_types program locals (arguments_of (drop i xs)) (drop i tys) ≡ map ty_of next ++ argument_types program locals (arguments_of (drop (i + 1) xs)) (drop (i + 1) tys)
  types_step given xs tys i x t next b e q d =
      let j : i + 1 ≡ suc i = omega arith in
      ap (λ ts. map ty_of given ++ ts) (ap (λ ys. argument_types program locals (arguments_of ys) (drop i tys)) (front xs i x b e) ∙ (one_argument (expr_of x) (arguments_of (drop (i + 1) xs)) tys i 0 (slice_get tys i) refl).1 ∙ ap (λ g. g ∷ argument_types program locals (arguments_of (drop (i + 1) xs)) (drop (suc i) tys)) (sym q) ∙ ap (λ g. ty_of t ∷ argument_types program locals (arguments_of (drop (i + 1) xs)) (drop g tys)) (sym j))
      ∙ by given t (argument_types program locals (arguments_of (drop (i + 1) xs)) (drop (i + 1) tys))
      ∙ ap (λ ts. map ty_of ts ++ argument_types program locals (arguments_of (drop (i + 1) xs)) (drop (i + 1) tys)) (sym d)
    where
      by : (given : List CodeTy) (t : CodeTy) (rest : List Ty) → map ty_of given ++ ty_of t ∷ rest ≡ map ty_of (given ++ t ∷ []) ++ rest
      by [] t rest = refl
      by (g ∷ given) t rest = ap (λ ts. ty_of g ∷ ts) (by given t rest)

  pub arguments_end : (s : Steps) (xs : List CodeExpr) (tys : List Ty) (i h : ℕ) → length xs ≤ i → both s (arguments_code program locals (arguments_of (drop i xs)) tys h) ≡ s
  arguments_end s xs tys i h l = ap (λ ys. both s (arguments_code program locals (arguments_of ys) tys h)) (nothing_left xs i l) ∙ by s
    where
      by : (s : Steps) → both s to.none ≡ s
      by to.none = refl
      by (to.more x s) = ap (to.more x) (by s)

  pub types_end : (given : List CodeTy) (xs : List CodeExpr) (tys : List Ty) (i : ℕ) → length xs ≤ i → map ty_of given ++ argument_types program locals (arguments_of (drop i xs)) tys ≡ map ty_of given
  types_end given xs tys i l = ap (λ ys. map ty_of given ++ argument_types program locals (arguments_of ys) tys) (nothing_left xs i l) ∙ by (map ty_of given)
    where
      by : (ts : List Ty) → ts ++ [] ≡ ts
      by [] = refl
      by (t ∷ ts) = ap (λ us. t ∷ us) (by ts)

  pub path_field : (s : Steps) (xs : List PathStep) (i h : ℕ) (x : PathStep) (structure field : ℕ) → i < length xs → x ≡ get_or xs i x → x ≡ Field structure field →
      both s (path_code program locals (path_of (drop i xs)) h) ≡ both s (path_code program locals (path_of (drop (i + 1) xs)) h)
  path_field s xs i h x structure field b e q = ap (λ ys. both s (path_code program locals (path_of ys) h)) (front xs i x b e ∙ ap (λ y. y ∷ drop (i + 1) xs) q)

  pub path_field_on : (s n : Steps) (xs : List PathStep) (i h k : ℕ) (x : PathStep) (structure field : ℕ) → i < length xs → x ≡ get_or xs i x → x ≡ Field structure field → k ≡ h → n ≡ s →
      both s (path_code program locals (path_of (drop i xs)) h) ≡ both n (path_code program locals (path_of (drop (i + 1) xs)) k)
  path_field_on s n xs i h k x structure field b e q m d =
      path_field s xs i h x structure field b e q
      ∙ ap (λ y. both y (path_code program locals (path_of (drop (i + 1) xs)) h)) (sym d)
      ∙ ap (λ g. both n (path_code program locals (path_of (drop (i + 1) xs)) g)) (sym m)

  pub path_element : (s n : Steps) (xs : List PathStep) (i h k : ℕ) (x : PathStep) (structure field : ℕ) (index : CodeExpr) → i < length xs → x ≡ get_or xs i x → x ≡ Element structure field index → k ≡ h + 1 →
      n ≡ both s (expression_code program locals (expr_of index) (index_type program locals (expr_of index)) h) →
      both s (path_code program locals (path_of (drop i xs)) h) ≡ both n (path_code program locals (path_of (drop (i + 1) xs)) k)
  path_element s n xs i h k x structure field index b e q m d =
      let z : suc h ≡ k = omega (arith, m) in
      let c = expression_code program locals (expr_of index) (index_type program locals (expr_of index)) h in
      ap (λ ys. both s (path_code program locals (path_of ys) h)) (front xs i x b e ∙ ap (λ y. y ∷ drop (i + 1) xs) q)
      ∙ sym (both_assoc s c (path_code program locals (path_of (drop (i + 1) xs)) (suc h)))
      ∙ ap (λ y. both y (path_code program locals (path_of (drop (i + 1) xs)) (suc h))) (sym d)
      ∙ ap (λ g. both n (path_code program locals (path_of (drop (i + 1) xs)) g)) z

  pub path_end : (s : Steps) (xs : List PathStep) (i h : ℕ) → length xs ≤ i → both s (path_code program locals (path_of (drop i xs)) h) ≡ s
  path_end s xs i h l = ap (λ ys. both s (path_code program locals (path_of ys) h)) (nothing_left xs i l) ∙ by s
    where
      by : (s : Steps) → both s to.none ≡ s
      by to.none = refl
      by (to.more x s) = ap (to.more x) (by s)

  pub type_there : (parameters : List CodeTy) (e : Expr) (i : ℕ) (t : CodeTy) → slice_get parameters i ≡ Some t → argument_at program locals e (map ty_of parameters) i ≡ ty_of t
  type_there parameters e i t q = ap (or_own program locals e) (slice_get-map ty_of parameters i ∙ ap (option_map ty_of) q)

  pub type_missing : (parameters : List CodeTy) (e : Expr) (i : ℕ) → slice_get parameters i ≡ None → argument_at program locals e (map ty_of parameters) i ≡ expression_type program locals e
  type_missing parameters e i q = ap (or_own program locals e) (slice_get-map ty_of parameters i ∙ ap (option_map ty_of) q)
