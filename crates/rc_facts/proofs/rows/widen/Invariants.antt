use Rattle.std.proofs.Common.{◌↔◌, ◌⊎◌, ◌<◌, ◌≤◌, ◌≡◌, ℕ, IsTrue}
use Rattle.rc_base.specs.BitSets.{marks}
use Rattle.rc_facts.specs.Rows.{links}
use Rattle.rc_facts.specs.Steps.{Meets}
use Rattle.rc_facts.proofs.rows.widen.Given as goal

abbrev pub invariant-loop-row : goal.invariant-loop-row
invariant-loop-row l = record {
  written : (x y : ℕ) → x < l.row-index → IsTrue (links l.rows x y) ↔ (IsTrue (links l.initial.rows x y) ⊎ (Meets (links l.initial.rows) (marks l.entry) x × IsTrue (marks l.more y)));
  rest : (x y : ℕ) → l.row-index ≤ x → links l.rows x y ≡ links l.initial.rows x y;
}
