use Rattle.std.proofs.Common.{◌≡◌, length, drop, map}
use Rattle.rc_syntax.specs.Shape.{param_of}
use Rattle.rc_linking.specs.Clash.{same_params}
use Rattle.rc_clashes.proofs.words.same_params.Given as goal

abbrev pub invariant-loop-i : goal.invariant-loop-i
invariant-loop-i l = record {
  lengths : length l.a ≡ length l.b;
  same : same_params (map param_of l.a) (map param_of l.b) ≡ same_params (map param_of (drop l.i l.a)) (map param_of (drop l.i l.b));
}
