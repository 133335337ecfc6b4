-- What is seen piece by piece.
use Rattle.std.proofs.Common.{◌≡◌, ◌<◌, ◌+◌, ℕ, Bool, List, [], ◌∷◌, ◌++◌, length, map, flat_map, take, get_or, refl, sym, ap, ◌∙◌}
use Rattle.std.proofs.lemmas.List.{map_push}
use Rattle.rc_numbering.specs.Tables.{has, with_new, seen_behind}
use Rattle.rc_tables.proofs.Taken.{map_more, flat_more}

module _ {A : Type 0} (equal : A → A → Bool) where
  seen_append : (table xs ys : List A) → seen_behind equal table (xs ++ ys) ≡ seen_behind equal (seen_behind equal table xs) ys
  seen_append table [] ys = refl
  seen_append table (x ∷ xs) ys = seen_append (with_new equal (has equal table x) table x) xs ys

  -- one list behind another
  pub seen_both : (old table now xs ys : List A) → table ≡ seen_behind equal old xs → now ≡ seen_behind equal table ys → now ≡ seen_behind equal old (xs ++ ys)
  seen_both old table now xs ys e n = n ∙ ap (λ t. seen_behind equal t ys) e ∙ sym (seen_append old xs ys)

  seen_step : (old table now xs ys more : List A) → more ≡ xs ++ ys → table ≡ seen_behind equal old xs → now ≡ seen_behind equal table ys → now ≡ seen_behind equal old more
  seen_step old table now xs ys more m e n = seen_both old table now xs ys e n ∙ ap (seen_behind equal old) (sym m)

  -- steps of walks: what was seen before is longer by what is seen now
  module _ {C : Type 0} (xs : List C) (i : ℕ) (x : C) (h : i < length xs) (q : x ≡ get_or xs i x) (old table now : List A) where
    pub map_step : (g : C → A) → table ≡ seen_behind equal old (map g (take i xs)) → now ≡ seen_behind equal table (g x ∷ []) → now ≡ seen_behind equal old (map g (take (i + 1) xs))
    map_step g e n = seen_step old table now (map g (take i xs)) (g x ∷ []) (map g (take (i + 1) xs)) (map_more xs i x h q g) e n

    pub flat_step : {B : Type 0} (f : B → List A) (g : C → B) → table ≡ seen_behind equal old (flat_map f (map g (take i xs))) → now ≡ seen_behind equal table (f (g x)) → now ≡ seen_behind equal old (flat_map f (map g (take (i + 1) xs)))
    flat_step f g e n = seen_step old table now (flat_map f (map g (take i xs))) (f (g x)) (flat_map f (map g (take (i + 1) xs))) (flat_more xs i x h q f g) e n

    pub twice_step : {B : Type 0} (f : B → A) (g : C → B) → table ≡ seen_behind equal old (map f (map g (take i xs))) → now ≡ seen_behind equal table (f (g x) ∷ []) → now ≡ seen_behind equal old (map f (map g (take (i + 1) xs)))
    twice_step f g e n = seen_step old table now (map f (map g (take i xs))) (f (g x) ∷ []) (map f (map g (take (i + 1) xs))) (ap (map f) (map_more xs i x h q g) ∙ map_push f (map g (take i xs)) (g x)) e n
