use Rattle.std.proofs.Common.{◌≡◌, length, drop, map}
use Rattle.rc_core.specs.Shapes.{ty_of}
use Rattle.rc_deletes.specs.Items.{same_takes}
use Rattle.rc_item_rules.proofs.items.same_takes.Given as goal

abbrev pub invariant-loop-i : goal.invariant-loop-i
invariant-loop-i l = record {
  lengths : length l.a ≡ length l.b;
  same : same_takes (map ty_of l.a) (map ty_of l.b) ≡ same_takes (map ty_of (drop l.i l.a)) (map ty_of (drop l.i l.b));
}
