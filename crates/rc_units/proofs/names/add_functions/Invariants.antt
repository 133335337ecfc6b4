use Rattle.std.proofs.Common.{◌≡◌, drop, map}
use Rattle.rc_syntax.specs.Shape.{item_of}
use Rattle.rc_deletes.specs.Items.{with_functions}
use Rattle.rc_units.proofs.names.add_functions.Given as goal

abbrev pub invariant-loop-item : goal.invariant-loop-item
invariant-loop-item l = record { same : with_functions l.initial.names (map item_of l.items) ≡ with_functions l.names (map item_of (drop l.item-index l.items)) }
