use Rattle.std.proofs.Common.{◌<◌, ℕ, IsTrue}
use Rattle.rc_base.specs.BitSets.{marks}
use Rattle.rc_facts.specs.Rows.{links, either_step, Reached}
use Rattle.rc_facts.proofs.spread.swept.Given as goal

abbrev pub invariant-loop-x : goal.invariant-loop-x
invariant-loop-x l = record {
  kept : (x : ℕ) → IsTrue (marks l.fn.start x) → IsTrue (marks l.reached x);
  one : (x y : ℕ) → x < l.x → IsTrue (marks l.fn.start x) → IsTrue (either_step (links l.within) (links l.above) x y) → IsTrue (marks l.reached y);
  sound : (x : ℕ) → IsTrue (marks l.reached x) → Reached (marks l.fn.start) (either_step (links l.within) (links l.above)) x;
}
