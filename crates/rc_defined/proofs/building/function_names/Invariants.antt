use Rattle.std.proofs.Common.{◌≡◌, [], drop, map}
use Rattle.rc_syntax.specs.Shape.{item_of}
use Rattle.rc_deletes.specs.Items.{with_functions}
use Rattle.rc_defined.proofs.building.function_names.Given as goal

abbrev pub invariant-loop-item : goal.invariant-loop-item
invariant-loop-item l = record { same : with_functions [] (map item_of l.items) ≡ with_functions l.names (map item_of (drop l.item-index l.items)) }
