use Rattle.std.proofs.Common.{◌≡◌, ◌&&◌, ◌||◌}
use Rattle.rc_facts.specs.declared.fact.Fact.{Fact}
use Rattle.rc_facts.specs.Facts.{holds}
use Rattle.rc_sealed.specs.Carrying.{speaks}
use Rattle.rc_carrying.specs.Left.{is_own, stay}
use Rattle.rc_carrying.proofs.leaving.drop_gone.Given as goal

abbrev pub invariant-loop-x : goal.invariant-loop-x
invariant-loop-x l = record {
  same : l.set.variables ≡ l.fn.set.variables;
  left : (fact : Fact) → holds l.set fact ≡ (holds l.fn.set fact && (speaks (stay l.low l.x l.assigned) fact || is_own fact));
}
