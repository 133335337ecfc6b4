-- Facts at points, and what may stand behind the way from one point to another.
use Rattle.std.specs.Prelude.{◌≡◌, ℕ, ◌<◌, Bool, false, List, [], length, get_or, Option, Some, None}
use Rattle.std.specs.List.{All, sum_by}
use Rattle.rc_facts.specs.declared.fact.Fact.{Fact}
use Rattle.rc_facts.specs.Derivable.{Derivable}
use Rattle.rc_facts.specs.Facts.{Known, holds, names, with_replaced}
use Rattle.rc_facts.specs.Shut.{together, IsClean, IsShut}

abbrev pub Facts : Type 0
Facts = Fact → Bool

-- a fact may stand behind new facts; the scratch variable holds the new value of an assigned one, and no fact names it
abbrev pub allowed : (n scratch : ℕ) → Option ℕ → List Fact → Facts → Fact → Type 0
allowed n scratch None news before fact = Derivable n (together before news) fact
allowed n scratch (Some x) news before fact = Derivable n (together before news) (with_replaced x scratch fact)

abbrev pub Behind : (n scratch : ℕ) → Option ℕ → List Fact → Facts → Fact → Type 0
Behind n scratch assigned news before fact = allowed n scratch assigned news before fact × (names scratch fact ≡ false)

-- no rule gives more facts, save on the scratch variable, and no fact names that
pub record IsClosed (n scratch : ℕ) (facts : Facts) : Type 0 where
  pub shut : IsShut n scratch facts
  pub clean : IsClean scratch facts

-- the set of a point
abbrev pub no_set : Known
no_set = record { variables = 0; facts = [] }

abbrev pub set_at : List Known → ℕ → Facts
set_at sets p = holds (get_or sets p no_set)

abbrev pub AreShut : (n scratch : ℕ) → List Known → Type 0
AreShut n scratch sets = (p : ℕ) → p < length sets → IsClosed n scratch (set_at sets p)

abbrev pub HaveVariables : ℕ → List Known → Type 0
HaveVariables n sets = All (λ (s : Known). s.variables ≡ n) sets

-- how many facts there are
abbrev pub facts_in : List Known → ℕ
facts_in sets = sum_by (λ (s : Known). length s.facts) sets
