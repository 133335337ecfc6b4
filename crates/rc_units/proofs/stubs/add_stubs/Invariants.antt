use Rattle.std.proofs.Common.{◌≡◌, ◌++◌, drop, map}
use Rattle.rc_syntax.specs.Shape.{item_of}
use Rattle.rc_deletes.specs.Items.{function_names}
use Rattle.rc_linking.specs.Stubs.{stubs_of}
use Rattle.rc_units.proofs.stubs.add_stubs.Given as goal

abbrev pub invariant-loop-item : goal.invariant-loop-item
invariant-loop-item l = record { same : map item_of l.initial.items.items ++ stubs_of l.line (function_names (map item_of l.file)) (map item_of l.file) ≡ map item_of l.items.items ++ stubs_of l.line l.known (map item_of (drop l.item-index l.file)) }
