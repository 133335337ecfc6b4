-- Keys stand where their names do.
use Rattle.std.proofs.Common.{◌≡◌, ◌∙◌, ◌+◌, ℕ, Bool, not, ◌||◌, List, [], ◌∷◌, ◌++◌, Option, Some, None, Vec, length, position, refl, sym, ap, cond, nat_lt, if◌then◌else◌}
use Rattle.std.proofs.lemmas.List.{length-map, map-append}
use Rattle.std.specs.List.{position_or_len, list_any}
use Rattle.std.specs.Str.{bytes_eq}
use Rattle.rc_scope.specs.Names.{place_of, names_of}
use Rattle.rc_scope.proofs.Numbers.{none_equal, first_at_end}

module _ {Z : Type 0} where
  -- whether the key spells the name
  abbrev pub spells : List ℕ → Vec ℕ Z → Bool
  spells name key = bytes_eq name key.items

  first-names_of : (keys : List (Vec ℕ Z)) (name : List ℕ) → position_or_len (spells name) keys ≡ position_or_len (bytes_eq name) (names_of keys)
  first-names_of [] name = refl
  first-names_of (k ∷ ks) name = ap (λ n. cond (not (bytes_eq name k.items)) (1 + n) 0) (first-names_of ks name)

  list_any-names_of : (keys : List (Vec ℕ Z)) (name : List ℕ) → list_any (spells name) keys ≡ list_any (bytes_eq name) (names_of keys)
  list_any-names_of [] name = refl
  list_any-names_of (k ∷ ks) name = ap (λ b. bytes_eq name k.items || b) (list_any-names_of ks name)

  place_of-names_of : (keys : List (Vec ℕ Z)) (name : List ℕ) → position (spells name) keys ≡ place_of (names_of keys) name
  place_of-names_of keys name =
      let first = first-names_of keys name in
      let count = sym (length-map keys (λ k. k.items)) in
      λ j. cond (nat_lt (first j) (count j)) (Some (first j)) None

  module _ (keys : List (Vec ℕ Z)) (names : List (List ℕ)) (spelt : names_of keys ≡ names) where
    -- a key stands at the place of the name that it spells
    pub found : (name : List ℕ) (place : Option ℕ) → place ≡ position (spells name) keys → place ≡ place_of names name
    found name place is = is ∙ place_of-names_of keys name ∙ ap (λ ns. place_of ns name) spelt

    -- the key of a new name goes behind all others
    module _ (key : Vec ℕ Z) (name : List ℕ) (is : key.items ≡ name) (none : place_of names name ≡ None) where
      pub inserted : (after : List (Vec ℕ Z)) → after ≡ (if list_any (spells key.items) keys then keys else keys ++ key ∷ []) → names_of after ≡ names ++ name ∷ []
      inserted after same =
          let new = list_any-names_of keys key.items ∙ (λ j. list_any (bytes_eq (is j)) (spelt j)) ∙ none_equal names name none in
          ap names_of (same ∙ ap (λ b. if b then keys else keys ++ key ∷ []) new) ∙ map-append (λ k. k.items) keys (key ∷ []) ∙ (λ j. spelt j ++ is j ∷ [])

      pub inserted_at : (place : ℕ) → place ≡ position_or_len (spells key.items) keys → place ≡ length names
      inserted_at place same =
          same ∙ first-names_of keys key.items ∙ (λ j. position_or_len (bytes_eq (is j)) (spelt j)) ∙ first_at_end names name none
