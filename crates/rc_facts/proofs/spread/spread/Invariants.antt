use Rattle.std.proofs.Common.{ℕ, IsTrue}
use Rattle.rc_base.specs.BitSets.{marks}
use Rattle.rc_facts.specs.Rows.{links, either_step, Reached}
use Rattle.rc_facts.proofs.Absent.{absent}
use Rattle.rc_facts.proofs.spread.spread.Given as goal

abbrev pub invariant-rounds : goal.invariant-rounds
invariant-rounds l = record {
  kept : (x : ℕ) → IsTrue (marks l.fn.start x) → IsTrue (marks l.reached x);
  sound : (x : ℕ) → IsTrue (marks l.reached x) → Reached (marks l.fn.start) (either_step (links l.within) (links l.above)) x;
}

abbrev pub decreases-rounds : goal.decreases-rounds
decreases-rounds l = absent l.reached
