-- Laws of the numbers of names.
use Rattle.std.proofs.Common.{◌≡◌, ◌≢◌, ◌<◌, ◌≤◌, ℕ, Bool, true, false, List, [], ◌∷◌, ◌++◌, Option, Some, None, length, get_or, slice_get, Contains, IfSome, IsNone, ◌↔◌, refl, sym, ap, subst, ◌∙◌, cond, nat_lt, true≢false, length-append, arith}
use Rattle.std.specs.List.{position_or_len, list_any}
use Rattle.std.specs.Str.{bytes_eq}
use Rattle.std.proofs.lemmas.Bool.Decides.{nat_tests}
use Rattle.std.proofs.lemmas.Map.Views.{Contains-from_any}
use Rattle.std.proofs.lemmas.Option.{slice_get-get_or}
use Rattle.std.proofs.lemmas.Slice.Eq.{bytes_eq-Decides}
use Rattle.std.proofs.lemmas.List.Quantifiers.{position-Some, all_pairs_push}
use Rattle.std.proofs.lemmas.List.Sums.{fails_before_first, prefix_len-le-length}
use Rattle.rc_scope.specs.Names.{place_of, IsNumbered}

-- a search that finds nothing ends behind the last
at_end : (p l : ℕ) → p ≤ l → cond (nat_lt p l) (Some p) None ≡ None → p ≡ l
at_end p l le none = grind (arith, nat_tests)

module _ (names : List (List ℕ)) (name : List ℕ) where
  -- a name is at its place
  pub is_at : (n : ℕ) → place_of names name ≡ Some n → (n < length names) × (get_or names n name ≡ name)
  is_at n found =
      let at = position-Some (bytes_eq name) names n name found in
      (at.0, sym ((bytes_eq-Decides name (get_or names n name)).0 at.1))

  pub stands : (place : Option ℕ) → place ≡ place_of names name → IfSome place (λ n. slice_get names n ≡ Some name)
  stands None found = tt
  stands (Some n) found = slice_get-get_or names n name (is_at n (sym found)).0 ∙ ap Some (is_at n (sym found)).1

  -- a name with no place is nowhere in the list
  pub first_at_end : place_of names name ≡ None → position_or_len (bytes_eq name) names ≡ length names
  first_at_end none = at_end (position_or_len (bytes_eq name) names) (length names) (prefix_len-le-length _ names) none

  pub differs : place_of names name ≡ None → (k : ℕ) (d : List ℕ) → k < length names → get_or names k d ≢ name
  differs none k d within same =
      let first = first_at_end none in
      let fails = fails_before_first (bytes_eq name) names k d (omega (arith, first)) in
      true≢false (sym ((bytes_eq-Decides name (get_or names k d)).1 (sym same)) ∙ fails)

  unknown : place_of names name ≡ None → Contains names name → ⊥
  unknown none there = differs none there.0 name there.1 there.2

  pub none_where_unknown : (place : Option ℕ) → place ≡ place_of names name → IsNone place ↔ (Contains names name → ⊥)
  none_where_unknown None found = (λ _. unknown (sym found), λ _. refl)
  none_where_unknown (Some n) found = (λ none. cc, λ never. absurd (never (n, (is_at n (sym found)).0, (is_at n (sym found)).1)))

  pub none_equal : place_of names name ≡ None → list_any (bytes_eq name) names ≡ false
  none_equal none = by (list_any (bytes_eq name) names) refl
    where
      by : (b : Bool) → list_any (bytes_eq name) names ≡ b → list_any (bytes_eq name) names ≡ false
      by true any = absurd (unknown none (Contains-from_any (λ x y. (bytes_eq-Decides x y).0) name names any))
      by false any = any

  -- with a new name behind all others still none stands there twice
  pub numbered_with_new : (after : List (List ℕ)) → place_of names name ≡ None → after ≡ names ++ name ∷ [] → length names < 4294967295 → IsNumbered names → IsNumbered after
  numbered_with_new after none is room old = subst IsNumbered (sym is) (record {
    distinct = all_pairs_push (λ a b. a ≢ b) names name old.distinct (differs none);
    few = rw length-append (omega (arith, old.few));
  })
