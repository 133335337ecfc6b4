use Rattle.std.proofs.Common.{◌≡◌, take, ◌||◌}
use Rattle.std.specs.List.{list_any}
use Rattle.rc_facts.specs.declared.fact.Fact.{Fact}
use Rattle.rc_facts.specs.Facts.{holds, same_fact}
use Rattle.rc_crossing.proofs.calls.fill.Given as goal

abbrev pub invariant-loop-fact : goal.invariant-loop-fact
invariant-loop-fact l = record {
  same : l.set.variables ≡ l.fn.set.variables;
  added : (fact : Fact) → holds l.set fact ≡ (holds l.fn.set fact || list_any (λ q. same_fact q fact) (take l.fact-index l.facts));
}
