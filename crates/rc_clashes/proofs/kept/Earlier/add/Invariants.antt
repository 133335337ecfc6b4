use Rattle.std.proofs.Common.{List, ◌++◌, take, map}
use Rattle.rc_syntax.specs.Shape.{item_of}
use Rattle.rc_syntax.specs.Tree as t
use Rattle.rc_clashes.specs.Kept.{StandsFor}
use Rattle.rc_clashes.proofs.kept.Earlier.add.Given as goal

abbrev pub invariant-loop-item : goal.invariant-loop-item
invariant-loop-item l = record { same : (earlier : List t.Item) → StandsFor l.initial.self earlier → StandsFor l.self (earlier ++ map item_of (take l.item-index l.items)) }
