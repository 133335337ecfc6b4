use Rattle.std.proofs.Common.{◌<◌, ◌⊎◌, ℕ, IsTrue}
use Rattle.rc_base.specs.BitSets.{marks}
use Rattle.rc_facts.specs.Rows.{links}
use Rattle.rc_facts.proofs.spread.led_back.Given as goal

abbrev pub invariant-loop-x : goal.invariant-loop-x
invariant-loop-x l = record {
  kept : (x : ℕ) → IsTrue (marks l.start x) → IsTrue (marks l.all x);
  found : (x y : ℕ) → x < l.x → IsTrue (links l.rows x y) → IsTrue (marks l.start y) → IsTrue (marks l.all x);
  sound : (x : ℕ) → IsTrue (marks l.all x) → IsTrue (marks l.start x) ⊎ ((y : ℕ) × IsTrue (links l.rows x y) × IsTrue (marks l.start y));
}
