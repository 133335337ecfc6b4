use Rattle.std.proofs.Common.{◌≡◌, length, drop, map}
use Rattle.rc_core.specs.Shapes.{ty_of}
use Rattle.rc_deletes.specs.Builtins.{parameter_of}
use Rattle.rc_deletes.specs.Items.{are_taken}
use Rattle.rc_item_rules.proofs.items.are_taken.Given as goal

abbrev pub invariant-loop-i : goal.invariant-loop-i
invariant-loop-i l = record {
  lengths : length l.parameters ≡ length l.types;
  same : are_taken (map parameter_of l.parameters) (map ty_of l.types) ≡ are_taken (map parameter_of (drop l.i l.parameters)) (map ty_of (drop l.i l.types));
}
