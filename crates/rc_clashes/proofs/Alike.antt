-- Lists of other lengths are not the same.
use Rattle.std.proofs.Common.{◌≡◌, suc, List, [], ◌∷◌, Bool, true, false, ◌&&◌, refl, sym, ap, ◌∙◌, length, map}
use Rattle.std.proofs.lemmas.List.{length-map}
use Rattle.rc_syntax.specs.declared.tree.Field.{Field}
use Rattle.rc_syntax.specs.declared.tree.Param.{Param}
use Rattle.rc_syntax.specs.declared.tree.Note.{Note}
use Rattle.rc_syntax.specs.Shape.{field_of, param_of}
use Rattle.rc_linking.specs.Clash.{same_lists, same_star, same_stars, same_field, same_fields, same_param, same_params}

unlike : {A : Type 0} (same : A → A → Bool) (xs ys : List A) → ¬ (length xs ≡ length ys) → same_lists same xs ys ≡ false
unlike same [] [] h = absurd (h refl)
unlike same [] (b ∷ ys) h = refl
unlike same (a ∷ xs) [] h = refl
unlike same (a ∷ xs) (b ∷ ys) h = no (same a b) (same_lists same xs ys) (unlike same xs ys (λ e. h (ap suc e))) where
  no : (x y : Bool) → y ≡ false → x && y ≡ false
  no true y e = e
  no false y e = refl

pub stars_apart : (xs ys : List Note) → ¬ (length xs ≡ length ys) → same_stars xs ys ≡ false
stars_apart = unlike same_star

pub fields_apart : (xs ys : List Field) → ¬ (length xs ≡ length ys) → same_fields (map field_of xs) (map field_of ys) ≡ false
fields_apart xs ys h = unlike same_field (map field_of xs) (map field_of ys) (λ e. h (sym (length-map xs field_of) ∙ e ∙ length-map ys field_of))

pub params_apart : (xs ys : List Param) → ¬ (length xs ≡ length ys) → same_params (map param_of xs) (map param_of ys) ≡ false
params_apart xs ys h = unlike same_param (map param_of xs) (map param_of ys) (λ e. h (sym (length-map xs param_of) ∙ e ∙ length-map ys param_of))
