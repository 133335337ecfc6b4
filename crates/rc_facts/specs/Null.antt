-- The facts of a variable that is null.
use Rattle.std.specs.Prelude.{ℕ, zero, suc, List, [], ◌∷◌}
use Rattle.rc_facts.specs.declared.fact.Fact.{Fact}
use Rattle.rc_facts.specs.declared.fact.Fact.TheVariants.{In, Trad}

-- in every variable's region, from the last to the first
abbrev pub in_each : ℕ → (x : ℕ) → List Fact
in_each zero x = []
in_each (suc k) x = In x k ∷ in_each k x

-- it is traditional, and in every variable's region
abbrev pub null_news : ℕ → (x : ℕ) → List Fact
null_news n x = Trad x ∷ in_each n x
