use Rattle.std.proofs.Common.{◌≢◌, ◌<◌, ◌≤◌, ℕ, length, slice_index_or}
use Rattle.rc_store.specs.Values.{value_of}
use Rattle.rc_store.proofs.pins.place_of.Given as goal

-- no pin behind is the value
abbrev pub invariant-loop-at : goal.invariant-loop-at
invariant-loop-at l = (k : ℕ) → l.at ≤ k → k < length l.cells → value_of (slice_index_or l.cells k l.value) ≢ value_of l.value
