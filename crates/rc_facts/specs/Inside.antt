-- The fields of a set of facts, and the set that they are seen as.
use Rattle.std.specs.Prelude.{◌≡◌, ◌≤◌, ℕ, Bool, List, map, ◌++◌, filter, length, IsTrue}
use Rattle.std.specs.List.{flat_map, range_with_len}
use Rattle.rc_facts.specs.declared.fact.Fact.{Fact}
use Rattle.rc_facts.specs.declared.fact.Fact.TheVariants.{In, Up, Trad, NonNull}
use Rattle.rc_facts.specs.Facts.{is_over, Known}
use Rattle.rc_base.specs.BitSets.{marks}
use Rattle.rc_facts.specs.Rows.{links}

-- rows of the facts on two variables, and a row for each kind of fact on one
pub record Fields : Type 0 where
  pub within : List ℕ
  pub above : List ℕ
  pub traditional : ℕ
  pub present : ℕ

abbrev pub fields : List ℕ → List ℕ → ℕ → ℕ → Fields
fields within above traditional present = record { within = within; above = above; traditional = traditional; present = present }

-- the test that has two tests of pairs and two of variables
abbrev pub fact_by : (ℕ → ℕ → Bool) → (ℕ → ℕ → Bool) → (ℕ → Bool) → (ℕ → Bool) → Fact → Bool
fact_by within above traditional present (In x y) = within x y
fact_by within above traditional present (Up x y) = above x y
fact_by within above traditional present (Trad x) = traditional x
fact_by within above traditional present (NonNull x) = present x

-- whether the fields have the fact
abbrev pub test_of : Fields → Fact → Bool
test_of f = fact_by (links f.within) (links f.above) (marks f.traditional) (marks f.present)

abbrev pub pairs : (ℕ → ℕ → Fact) → ℕ → List Fact
pairs fact n = flat_map (λ x. map (fact x) (range_with_len 0 n)) (range_with_len 0 n)

-- all facts over n variables, each once
abbrev pub facts_over : ℕ → List Fact
facts_over n = (pairs (λ x y. In x y) n ++ pairs (λ x y. Up x y) n) ++ (map (λ x. Trad x) (range_with_len 0 n) ++ map (λ x. NonNull x) (range_with_len 0 n))

-- the set of the facts over n variables that pass a test
abbrev pub known_by : ℕ → (Fact → Bool) → Known
known_by n test = record { variables = n; facts = filter test (facts_over n) }

abbrev pub known_of : Fields → Known
known_of f = known_by (length f.within) (test_of f)

-- each variable has its two rows, and all facts are over the variables
pub record IsSound (f : Fields) : Type 0 where
  pub few : length f.within ≤ 128
  pub same : length f.above ≡ length f.within
  pub over : (fact : Fact) → IsTrue (test_of f fact) → IsTrue (is_over (length f.within) fact)
