use Rattle.std.proofs.Common.{◌≡◌, ◌||◌}
use Rattle.rc_facts.specs.declared.fact.Fact.{Fact}
use Rattle.rc_annotations.specs.Annotations.{some_pair}
use Rattle.rc_sealed.specs.Carrying.{entry_pairs}
use Rattle.rc_image_claims.specs.Naming.{is_listed}
use Rattle.rc_image_steps.proofs.beginning.add_pairs.Given as goal

abbrev pub invariant-loop-copy : goal.invariant-loop-copy
invariant-loop-copy l = (fact : Fact) → is_listed l.out.items fact ≡ (is_listed l.fn.out.items fact || some_pair (entry_pairs l.copies l.copy) fact)
