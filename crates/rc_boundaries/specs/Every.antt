-- All facts on variables below a number, in a list.
use Rattle.std.specs.Prelude.{ℕ, List, [], ◌∷◌}
use Rattle.std.specs.List.{flat_map, range_with_len}
use Rattle.rc_facts.specs.declared.fact.Fact.{Fact}
use Rattle.rc_facts.specs.declared.fact.Fact.TheVariants.{In, Up, Trad, NonNull}

abbrev pub pairs_with : (x : ℕ) → List ℕ → List Fact
pairs_with x ys = flat_map (λ y. In x y ∷ Up x y ∷ []) ys

-- on x and each below n
abbrev pub facts_with : (x n : ℕ) → List Fact
facts_with x n = Trad x ∷ NonNull x ∷ pairs_with x (range_with_len 0 n)

abbrev pub every_fact : ℕ → List Fact
every_fact n = flat_map (λ x. facts_with x n) (range_with_len 0 n)
