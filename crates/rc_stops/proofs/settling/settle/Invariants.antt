use Rattle.std.proofs.Common.{◌≡◌, ℕ, ◌+◌, ◌*◌, ◌<◌, ◌⊎◌, IsTrue, length}
use Rattle.rc_stops.specs.Rows.{AreUsed, IsWhole, missing}
use Rattle.rc_stops.specs.Waits.{is_among, AreBelow}
use Rattle.rc_stops.proofs.settling.settle.Given as goal

abbrev pub invariant-looks : goal.invariant-looks
invariant-looks l = record {
  long : length l.rows ≡ length l.fn.rows;
  below : AreBelow (length l.stops) l.waiting.items;
  used : AreUsed l.stops l.rows;
  whole : (k : ℕ) → k < length l.stops → IsWhole l.stops l.rows k ⊎ IsTrue (is_among l.waiting.items k);
}

abbrev pub decreases-looks : goal.decreases-looks
decreases-looks l = missing l.rows * (length l.stops + 2) + length l.waiting.items
