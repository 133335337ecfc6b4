use Rattle.std.proofs.Common.{◌≡◌, ◌&&◌, ◌||◌, ◌∷◌, get_or}
use Rattle.std.specs.List.{list_any, range_with_len}
use Rattle.rc_facts.specs.declared.fact.Fact.{Fact}
use Rattle.rc_facts.specs.declared.fact.Fact.TheVariants.{Trad, NonNull}
use Rattle.rc_facts.specs.Facts.{holds, same_fact}
use Rattle.rc_annotations.specs.Annotations.{fact_with}
use Rattle.rc_boundaries.specs.Every.{pairs_with}
use Rattle.rc_prove.proofs.reading.gather_row.Given as goal

abbrev pub invariant-loop-y : goal.invariant-loop-y
invariant-loop-y l = record {
  same : l.found.variables ≡ l.fn.found.variables;
  added : (p : Fact) → holds l.found p ≡ (holds l.fn.found p || list_any (λ q. holds l.set (fact_with (λ v. get_or l.names v 0) q) && same_fact q p) (Trad l.x ∷ NonNull l.x ∷ pairs_with l.x (range_with_len 0 l.y)));
}
