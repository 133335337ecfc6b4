use Rattle.std.proofs.Common.{◌≡◌, List, drop, map}
use Rattle.rc_syntax.specs.Shape.{item_of}
use Rattle.rc_deletes.specs.Items.{Definition, names_of, with_structs}
use Rattle.rc_link.proofs.joining.add_structs.Given as goal

abbrev pub invariant-loop-item : goal.invariant-loop-item
invariant-loop-item l = record {
  same : (ds : List Definition) → l.initial.structs ≡ names_of ds → (es : List Definition) × (l.structs ≡ names_of es) × (with_structs ds (map item_of l.file) ≡ with_structs es (map item_of (drop l.item-index l.file)));
}
