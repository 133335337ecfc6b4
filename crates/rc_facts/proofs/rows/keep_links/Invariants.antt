use Rattle.std.proofs.Common.{◌≡◌, ◌<◌, ◌&&◌, ℕ, false, IsTrue, MatchBool}
use Rattle.rc_facts.specs.Rows.{links}
use Rattle.rc_facts.proofs.RowLoops.{Written}
use Rattle.rc_facts.proofs.rows.keep_links.Given as goal

abbrev pub invariant-loop-x : goal.invariant-loop-x
invariant-loop-x l = record {
  so_far : Written l.initial.rows l.rows l.x (λ x y. links l.initial.rows x y && links l.others x y);
  dropped : MatchBool l.dropped ((x : ℕ) × (y : ℕ) × IsTrue (links l.initial.rows x y) × (links l.others x y ≡ false)) ((x y : ℕ) → x < l.x → IsTrue (links l.initial.rows x y) → IsTrue (links l.others x y));
}
