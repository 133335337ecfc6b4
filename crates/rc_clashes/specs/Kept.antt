-- What the code keeps of earlier items.
use Rattle.std.specs.Prelude.{List, map}
use Rattle.std.specs.Borrow.{Bor}
use Rattle.std.specs.declared.vec.Vec.{Vec}
use Rattle.std.specs.declared.alloc.Global.{Global}
use Rattle.rc_syntax.specs.declared.tree.Item.{Item}
use Rattle.rc_syntax.specs.Shape.{item_of}
use Rattle.rc_syntax.specs.Tree as t
use Rattle.rc_clashes.specs.declared.kept.Earlier.{Earlier}
use Rattle.rc_clashes.specs.Standing.{StandFor}

abbrev pub items_of : List (Bor Item) → List t.Item
items_of items = map (λ (i : Bor Item). item_of i.now) items

abbrev pub own_items : Vec (Bor Item) Global → List t.Item
own_items items = items_of items.items

-- it clashes with what these items clash with
abbrev pub StandsFor : Earlier → List t.Item → Type 0
StandsFor e earlier = StandFor e.names (map own_items e.kept.items) earlier
