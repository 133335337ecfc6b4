use Rattle.std.proofs.Common.{◌<◌, ℕ, IsTrue}
use Rattle.rc_facts.specs.Rows.{links, Chain}
use Rattle.rc_facts.proofs.rows.chain.Given as goal

abbrev pub invariant-loop-middle : goal.invariant-loop-middle
invariant-loop-middle l = record {
  kept : (x y : ℕ) → IsTrue (links l.initial.rows x y) → IsTrue (links l.rows x y);
  sound : (x y : ℕ) → IsTrue (links l.rows x y) → Chain (links l.initial.rows) x y;
  passed : (x y z : ℕ) → y < l.middle → IsTrue (links l.rows x y) → IsTrue (links l.rows y z) → IsTrue (links l.rows x z);
}
