use Rattle.std.proofs.Common.{◌≡◌, drop, map}
use Rattle.rc_syntax.specs.Shape.{item_of}
use Rattle.rc_deletes.specs.Items.{mentioned, with_all}
use Rattle.rc_defined.proofs.building.mention_items.Given as goal

abbrev pub invariant-loop-item : goal.invariant-loop-item
invariant-loop-item l = record { same : with_all l.initial.names (mentioned (map item_of l.items)) ≡ with_all l.names (mentioned (map item_of (drop l.item-index l.items))) }
