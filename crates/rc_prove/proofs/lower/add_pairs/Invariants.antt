use Rattle.std.proofs.Common.{◌≡◌, ◌||◌}
use Rattle.rc_facts.specs.declared.fact.Fact.{Fact}
use Rattle.rc_facts.specs.Facts.{holds}
use Rattle.rc_annotations.specs.Annotations.{some_pair}
use Rattle.rc_sealed.specs.Carrying.{entry_pairs}
use Rattle.rc_prove.proofs.lower.add_pairs.Given as goal

abbrev pub invariant-loop-copy : goal.invariant-loop-copy
invariant-loop-copy l = record {
  same : l.work.variables ≡ l.fn.work.variables;
  added : (fact : Fact) → holds l.work fact ≡ (holds l.fn.work fact || some_pair (entry_pairs l.copies l.copy) fact);
}
