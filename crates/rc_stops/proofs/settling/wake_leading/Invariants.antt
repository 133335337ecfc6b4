use Rattle.std.proofs.Common.{◌≡◌, ℕ, ◌+◌, ◌-◌, ◌<◌, ◌≤◌, IsTrue, length, Some}
use Rattle.rc_stops.specs.Paths.{stop_at}
use Rattle.rc_stops.specs.Waits.{is_among, AreBelow}
use Rattle.rc_stops.proofs.settling.wake_leading.Given as goal

abbrev pub invariant-links : goal.invariant-links
invariant-links l = record {
  below : AreBelow (length l.stops) l.waiting.items;
  within : l.k ≤ length l.stops;
  leads : l.k < length l.stops → (stop_at l.stops l.k).leads ≡ Some l.at;
  done : (j : ℕ) → j < l.k → (stop_at l.stops j).leads ≡ Some l.at → IsTrue (is_among l.waiting.items j);
  kept : (j : ℕ) → IsTrue (is_among l.fn.waiting.items j) → IsTrue (is_among l.waiting.items j);
  count : length l.waiting.items ≤ length l.fn.waiting.items + l.k;
}

abbrev pub decreases-links : goal.decreases-links
decreases-links l = length l.stops - l.k
