-- Facts of a list that are added one after another.
use Rattle.std.proofs.Common.{◌≡◌, ◌∙◌, ℕ, ◌+◌, Bool, true, false, ◌||◌, ◌&&◌, ◌++◌, List, [], ◌∷◌, refl, sym, ap}
use Rattle.std.specs.List.{list_any, flat_map, range_with_len}
use Rattle.std.proofs.lemmas.List.Folds.{list_any-append}
use Rattle.rc_facts.specs.declared.fact.Fact.{Fact}
use Rattle.rc_facts.specs.declared.fact.Fact.TheVariants.{In, Up, Trad, NonNull}
use Rattle.rc_facts.specs.Facts.{same_fact}
use Rattle.rc_facts.specs.Flow.{Facts}
use Rattle.rc_boundaries.specs.Every.{facts_with, pairs_with}
use Rattle.rc_boundaries.proofs.Every.{row_more, every_more}

or_nothing : (b : Bool) → (b || false) ≡ b
or_nothing true = refl
or_nothing false = refl

joined : (a b c : Bool) → ((a || b) || c) ≡ (a || (b || c))
joined true b c = refl
joined false b c = refl

two_last : (o l i u : Bool) → (((o || l) || i) || u) ≡ (o || ((l || (i || false)) || (u || false)))
two_last true l i u = refl
two_last false true i u = refl
two_last false false true u = refl
two_last false false false u = sym (or_nothing u)

module _ (wanted : Fact → Bool) where
  -- some fact of the list is this one, and wanted
  abbrev pub given : List Fact → Fact → Bool
  given list p = list_any (λ q. wanted q && same_fact q p) list

  abbrev row_to : (x y : ℕ) → List Fact
  row_to x y = Trad x ∷ NonNull x ∷ pairs_with x (range_with_len 0 y)

  pub row_goes_on : (x y : ℕ) (old now one two : Facts) → ((p : Fact) → now p ≡ (old p || given (row_to x y) p)) → ((p : Fact) → one p ≡ (now p || (wanted (In x y) && same_fact (In x y) p))) → ((p : Fact) → two p ≡ (one p || (wanted (Up x y) && same_fact (Up x y) p))) → (p : Fact) → two p ≡ (old p || given (row_to x (y + 1)) p)
  row_goes_on x y old now one two so_far first then p =
      then p ∙ ap (λ b. b || (wanted (Up x y) && same_fact (Up x y) p)) (first p ∙ ap (λ b. b || (wanted (In x y) && same_fact (In x y) p)) (so_far p))
      ∙ two_last (old p) (given (row_to x y) p) _ _
      ∙ ap (λ b. old p || (b || given (Up x y ∷ []) p)) (sym (list_any-append (λ q. wanted q && same_fact q p) (row_to x y) (In x y ∷ [])))
      ∙ ap (λ b. old p || b) (sym (list_any-append (λ q. wanted q && same_fact q p) (row_to x y ++ In x y ∷ []) (Up x y ∷ [])))
      ∙ ap (λ list. old p || given list p) (row_more [] (row_to x y) (row_to x y ++ In x y ∷ []) ((row_to x y ++ In x y ∷ []) ++ Up x y ∷ []) x y refl refl refl)

  abbrev rows_to : (n x : ℕ) → List Fact
  rows_to n x = flat_map (λ x. facts_with x n) (range_with_len 0 x)

  pub rows_go_on : (n x : ℕ) (old now more : Facts) → ((p : Fact) → now p ≡ (old p || given (rows_to n x) p)) → ((p : Fact) → more p ≡ (now p || given (facts_with x n) p)) → (p : Fact) → more p ≡ (old p || given (rows_to n (x + 1)) p)
  rows_go_on n x old now more so_far row p =
      row p ∙ ap (λ b. b || given (facts_with x n) p) (so_far p) ∙ joined (old p) _ _
      ∙ ap (λ b. old p || b) (sym (list_any-append (λ q. wanted q && same_fact q p) (rows_to n x) (facts_with x n)))
      ∙ ap (λ list. old p || given list p) (every_more n x (rows_to n x) (rows_to n x ++ facts_with x n) refl refl)
