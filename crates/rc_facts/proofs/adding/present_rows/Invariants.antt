use Rattle.std.proofs.Common.{◌≡◌, ◌≢◌, ℕ, true, length}
use Rattle.rc_facts.specs.declared.fact.Fact.TheVariants.{NonNull}
use Rattle.rc_base.specs.BitSets.{marks}
use Rattle.rc_facts.specs.Rows.{links}
use Rattle.rc_facts.specs.Inside.{fact_by}
use Rattle.rc_facts.specs.Shut.{IsClean, IsShut}
use Rattle.rc_facts.proofs.Present.{with_one, Follows, Joining}
use Rattle.rc_facts.proofs.adding.present_rows.Given as goal

abbrev pub invariant-loop-u : goal.invariant-loop-u
invariant-loop-u l = record {
  follows : Follows (length l.initial.within) (with_one (fact_by (links l.initial.within) (links l.initial.above) (marks l.initial.traditional) (marks l.initial.present)) (NonNull l.x)) (links l.initial.within) (links l.initial.above) (links l.within) (links l.above);
  left_wider : (y : ℕ) → marks l.left y ≡ true → marks l.wider y ≡ true;
  joining : (s : ℕ) → s ≢ l.x → IsShut (length l.initial.within) s (fact_by (links l.initial.within) (links l.initial.above) (marks l.initial.traditional) (marks l.initial.present)) → IsClean s (fact_by (links l.initial.within) (links l.initial.above) (marks l.initial.traditional) (marks l.initial.present)) → Joining (length l.initial.within) s (links l.within) (links l.above) (marks l.wider) (marks l.left) l.u;
}
