use Rattle.std.proofs.Common.{◌≡◌, length, drop, map}
use Rattle.rc_syntax.specs.Shape.{field_of}
use Rattle.rc_linking.specs.Clash.{same_fields}
use Rattle.rc_clashes.proofs.words.same_fields.Given as goal

abbrev pub invariant-loop-i : goal.invariant-loop-i
invariant-loop-i l = record {
  lengths : length l.a ≡ length l.b;
  same : same_fields (map field_of l.a) (map field_of l.b) ≡ same_fields (map field_of (drop l.i l.a)) (map field_of (drop l.i l.b));
}
