use Rattle.std.proofs.Common.{◌≢◌, ◌<◌, ℕ, get_or}
use Rattle.rc_store.specs.Stores.{IsLive}
use Rattle.rc_tests_heaps.proofs.sets.is_set.Given as goal

abbrev pub invariant-loop-at : goal.invariant-loop-at
invariant-loop-at g l = record {
  live : (k : ℕ) → k < l.at → (d : ℕ) → IsLive (g.H.Heap.store l.heap) (get_or l.set k d);
  apart : (j : ℕ) → j < l.at → (i d : ℕ) → i < j → get_or l.set i d ≢ get_or l.set j d;
}

abbrev pub invariant-loop-before : goal.invariant-loop-before
invariant-loop-before g l = (i : ℕ) → i < l.before → (d : ℕ) → get_or l.set i d ≢ get_or l.set l.at d
