use Rattle.std.proofs.Common.{◌≡◌, length, drop}
use Rattle.rc_linking.specs.Clash.{same_stars}
use Rattle.rc_clashes.proofs.words.same_stars.Given as goal

abbrev pub invariant-loop-i : goal.invariant-loop-i
invariant-loop-i l = record {
  lengths : length l.a ≡ length l.b;
  same : same_stars l.a l.b ≡ same_stars (drop l.i l.a) (drop l.i l.b);
}
