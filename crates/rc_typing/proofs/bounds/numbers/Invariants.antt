use Rattle.std.proofs.Common.{drop, map}
use Rattle.rc_syntax.specs.Shape.{item_of}
use Rattle.rc_deletes.specs.Ranges.{ItemsInRange}
use Rattle.rc_typing.proofs.bounds.numbers.Given as goal

abbrev pub invariant-loop-i : goal.invariant-loop-i
invariant-loop-i l = record { rest : ItemsInRange (map item_of (drop l.i-index l.items)) → ItemsInRange (map item_of l.items) }
