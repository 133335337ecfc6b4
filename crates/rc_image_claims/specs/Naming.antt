-- Facts with names for their variables.
use Rattle.std.specs.Prelude.{◌≡◌, ℕ, Bool, IsTrue, List, length, get_or}
use Rattle.std.specs.List.{list_any}
use Rattle.rc_facts.specs.declared.fact.Fact.{Fact}
use Rattle.rc_facts.specs.Facts.{is_over, same_fact}
use Rattle.rc_annotations.specs.Annotations.{fact_with}

abbrev pub is_listed : List Fact → Fact → Bool
is_listed facts fact = list_any (λ q. same_fact q fact) facts

-- it is one of these facts, whose variables have the names
pub record Named (facts : Fact → Bool) (names : List ℕ) (fact : Fact) : Type 0 where
  pub of : Fact
  pub over : IsTrue (is_over (length names) of)
  pub has : IsTrue (facts of)
  pub named : fact_with (λ v. get_or names v 0) of ≡ fact
