use Rattle.std.proofs.Common.{ℕ, ◌<◌, IsTrue}
use Rattle.rc_stops.specs.Waits.{is_among, AreBelow}
use Rattle.rc_stops.proofs.settling.wake_all.Given as goal

abbrev pub invariant-loop-at : goal.invariant-loop-at
invariant-loop-at l = record {
  below : AreBelow l.count l.waiting.items;
  woken : (k : ℕ) → k < l.at → IsTrue (is_among l.waiting.items k);
}
