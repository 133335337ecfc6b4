-- Sets of facts read under other names: the facts that a set has of some variables, each by its place among them. And lists of sets of
-- which some lose facts.
use Rattle.std.specs.Prelude.{◌≡◌, ℕ, ◌<◌, ◌&&◌, Bool, IsTrue, ◌↔◌, MatchBool, List, length, get_or}
use Rattle.rc_facts.specs.declared.fact.Fact.{Fact}
use Rattle.rc_facts.specs.Facts.{Known, holds, is_over}
use Rattle.rc_annotations.specs.Annotations.{fact_with}
use Rattle.rc_facts.specs.Flow.{Facts, facts_in, no_set, set_at}

abbrev pub read_by : List ℕ → Known → Facts
read_by names known fact = is_over (length names) fact && holds known (fact_with (λ v. get_or names v 0) fact)

-- each set keeps of its facts those that stay in it; and whether one was lost
pub record Loses (lost : Bool) (old new : List Known) (stays : (set : ℕ) → Fact → Type 0) : Type 0 where
  pub long : length new ≡ length old
  pub variables : (p : ℕ) → (get_or new p no_set).variables ≡ (get_or old p no_set).variables
  pub facts : (p : ℕ) (fact : Fact) → IsTrue (set_at new p fact) ↔ (IsTrue (set_at old p fact) × stays p fact)
  pub fewer : MatchBool lost (facts_in new < facts_in old) (new ≡ old)
