use Rattle.std.proofs.Common.{◌≡◌, ◌++◌, drop, map}
use Rattle.rc_syntax.specs.Shape.{item_of}
use Rattle.rc_linking.specs.Joined.{without}
use Rattle.rc_linking.specs.Moved.{moved_items}
use Rattle.rc_link.proofs.joining.add_file.Given as goal

abbrev pub invariant-loop-item : goal.invariant-loop-item
invariant-loop-item l = record {
  same : map item_of l.initial.joined.items ++ moved_items l.by (without l.structs (map item_of l.file)) ≡ map item_of l.joined.items ++ moved_items l.by (without l.structs (map item_of (drop l.item-index l.file)));
}
