-- One more at the end of what a walk has taken.
use Rattle.std.proofs.Common.{◌≡◌, ◌<◌, ◌+◌, ℕ, List, [], ◌∷◌, ◌++◌, length, map, flat_map, take, get_or, sym, ap, ◌∙◌, subst, append-nil}
use Rattle.std.specs.List.{AllByRecursion as Every}
use Rattle.std.proofs.lemmas.Grind.{flat_map-append}
use Rattle.std.proofs.lemmas.List.{map_push, take_more}
use Rattle.rc_safety.proofs.Lists.{every_append}

module _ {C : Type 0} (xs : List C) (i : ℕ) (x : C) (h : i < length xs) (q : x ≡ get_or xs i x) where
  pub one_more : take (i + 1) xs ≡ take i xs ++ x ∷ []
  one_more = take_more xs i x h ∙ ap (λ y. take i xs ++ y ∷ []) (sym q)

  pub map_more : {A : Type 0} (g : C → A) → map g (take (i + 1) xs) ≡ map g (take i xs) ++ g x ∷ []
  map_more g = ap (map g) one_more ∙ map_push g (take i xs) x

  pub flat_more : {A B : Type 0} (f : B → List A) (g : C → B) → flat_map f (map g (take (i + 1) xs)) ≡ flat_map f (map g (take i xs)) ++ f (g x)
  flat_more f g =
      ap (flat_map f) (map_more g) ∙ flat_map-append f (map g (take i xs)) (g x ∷ []) ∙ ap (λ l. flat_map f (map g (take i xs)) ++ l) (append-nil (f (g x)))

  pub every_more : (P : C → Type 0) → Every P (take i xs) → P x → Every P (take (i + 1) xs)
  every_more P all p = subst (Every P) (sym one_more) (every_append P (take i xs) (x ∷ []) all (p, tt))
