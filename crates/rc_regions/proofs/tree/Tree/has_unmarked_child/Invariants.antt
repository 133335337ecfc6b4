use Rattle.std.proofs.Common.{◌≡◌, ◌<◌, ℕ, None, Some}
use Rattle.rc_regions.specs.Columns.{column}
use Rattle.rc_regions.specs.Slots.{IsUnmarked}
use Rattle.rc_regions.proofs.Walked.{walk}
use Rattle.rc_regions.proofs.tree.Tree.has_unmarked_child.Given as goal

abbrev pub invariant-loop : goal.invariant-loop
invariant-loop l = record {
  at : l.next ≡ walk (column (λ r. r.next) None l.records.items) (column (λ r. r.first_child) None l.records.items l.slot) l.counter;
  marked : (k : ℕ) → k < l.counter → (s : ℕ) → walk (column (λ r. r.next) None l.records.items) (column (λ r. r.first_child) None l.records.items l.slot) k ≡ Some s → IsUnmarked l.marks s → ⊥;
}
