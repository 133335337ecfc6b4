-- An access along a way inward, step by step from the front.
use Rattle.std.proofs.Common.{◌≡◌, ◌<◌, ◌≤◌, ℕ, ◌+◌, List, [], ◌∷◌, ◌++◌, length, drop, map, Option, refl, sym, ap, ◌∙◌}
use Rattle.std.specs.Prelude.{get_or}
use Rattle.std.proofs.Math.ListN.{length-map}
use Rattle.rc_core.specs.declared.expr.Expr.{Expr as CodeExpr}
use Rattle.rc_core.specs.declared.expr.PathStep.{PathStep, Field, Element}
use Rattle.rc_core.specs.declared.ty.Signedness.{Signedness}
use Rattle.rc_core.specs.Layout.{offset, count_of, stride}
use Rattle.rc_core.specs.Programs.{Program}
use Rattle.rc_core.specs.Shapes.{expr_of, path_of}
use Rattle.rc_core.specs.Types.{Ty}
use Rattle.rc_rlang.specs.RegionCode.{Access}
use Rattle.rc_rlang.specs.Shapes.{index_of}
use Rattle.rc_rlang.specs.declared.access.Index.{Index as CodeIndex}
use Rattle.rc_translation.specs.Translation.{expression_type, signedness, path_access}
use Rattle.rc_accesses.specs.Inner.{access_at}
use Rattle.rc_accesses.proofs.PathTypes.{front, nothing_left}

map_behind : (is : List CodeIndex) (i : CodeIndex) → map index_of (is ++ i ∷ []) ≡ map index_of is ++ index_of i ∷ []
map_behind [] i = refl
map_behind (j ∷ is) i = ap (λ ks. index_of j ∷ ks) (map_behind is i)

module _ (program : Program) (locals : List Ty) where
  pub way_field : (xs : List PathStep) (k : ℕ) (x : PathStep) (s f : ℕ) (element cell : Ty) (shift : Option Signedness) (n m : ℕ) (is : List CodeIndex) → k < length xs → x ≡ get_or xs k x → x ≡ Field s f → m ≡ n + offset program.structs s f →
      path_access program locals (path_of (drop k xs)) (access_at element cell shift n (map index_of is)) ≡ path_access program locals (path_of (drop (k + 1) xs)) (access_at element cell shift m (map index_of is))
  way_field xs k x s f element cell shift n m is h e q r =
      ap (λ ys. path_access program locals (path_of ys) (access_at element cell shift n (map index_of is))) (front xs k x h e ∙ ap (λ y. y ∷ drop (k + 1) xs) q)
      ∙ ap (λ j. path_access program locals (path_of (drop (k + 1) xs)) (access_at element cell shift j (map index_of is))) (sym r)

  pub way_element : (xs : List PathStep) (k : ℕ) (x : PathStep) (s f : ℕ) (e : CodeExpr) (element cell : Ty) (shift : Option Signedness) (n m : ℕ) (is js : List CodeIndex) (i : CodeIndex) → k < length xs → x ≡ get_or xs k x → x ≡ Element s f e → m ≡ n + offset program.structs s f →
      index_of i ≡ record { count = count_of program.structs s f; stride = stride program.structs s f; kind = signedness program locals (expression_type program locals (expr_of e)) } → js ≡ is ++ i ∷ [] →
      path_access program locals (path_of (drop k xs)) (access_at element cell shift n (map index_of is)) ≡ path_access program locals (path_of (drop (k + 1) xs)) (access_at element cell shift m (map index_of js))
  way_element xs k x s f e element cell shift n m is js i h g q r d b =
      ap (λ ys. path_access program locals (path_of ys) (access_at element cell shift n (map index_of is))) (front xs k x h g ∙ ap (λ y. y ∷ drop (k + 1) xs) q)
      ∙ ap (λ j. path_access program locals (path_of (drop (k + 1) xs)) (access_at element cell shift j (map index_of is ++ record { count = count_of program.structs s f; stride = stride program.structs s f; kind = signedness program locals (expression_type program locals (expr_of e)) } ∷ []))) (sym r)
      ∙ ap (λ z. path_access program locals (path_of (drop (k + 1) xs)) (access_at element cell shift m (map index_of is ++ z ∷ []))) (sym d)
      ∙ ap (λ zs. path_access program locals (path_of (drop (k + 1) xs)) (access_at element cell shift m zs)) (sym (ap (map index_of) b ∙ map_behind is i))

  pub way_end : (xs : List PathStep) (k : ℕ) (a : Access) → length xs ≤ k → path_access program locals (path_of (drop k xs)) a ≡ a
  way_end xs k a h = ap (λ ys. path_access program locals (path_of ys) a) (nothing_left xs k h)

pub indices_there : (is : List CodeIndex) → length (map index_of is) ≡ length is
indices_there is = length-map is index_of
