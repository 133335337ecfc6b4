use Rattle.std.proofs.Common.{◌≡◌, ◌&&◌, ◌||◌, length, get_or}
use Rattle.std.specs.List.{list_any, flat_map, range_with_len}
use Rattle.rc_facts.specs.declared.fact.Fact.{Fact}
use Rattle.rc_facts.specs.Facts.{holds, same_fact}
use Rattle.rc_annotations.specs.Annotations.{fact_with}
use Rattle.rc_boundaries.specs.Every.{facts_with}
use Rattle.rc_prove.proofs.reading.gather.Given as goal

abbrev pub invariant-loop-x : goal.invariant-loop-x
invariant-loop-x l = record {
  same : l.found.variables ≡ l.fn.found.variables;
  added : (p : Fact) → holds l.found p ≡ (holds l.fn.found p || list_any (λ q. holds l.set (fact_with (λ v. get_or l.names v 0) q) && same_fact q p) (flat_map (λ x. facts_with x (length l.names)) (range_with_len 0 l.x)));
}
