use Rattle.std.proofs.Common.{◌≡◌, drop, map}
use Rattle.rc_syntax.specs.Shape.{item_of}
use Rattle.rc_linking.specs.Stubs.{declares_main}
use Rattle.rc_units.proofs.stubs.declares_main.Given as goal

abbrev pub invariant-loop-item : goal.invariant-loop-item
invariant-loop-item l = record { same : declares_main (map item_of l.file) ≡ declares_main (map item_of (drop l.item-index l.file)) }
