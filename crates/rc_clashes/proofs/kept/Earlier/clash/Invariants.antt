use Rattle.std.proofs.Common.{◌≡◌, ℕ, List, drop, map}
use Rattle.rc_syntax.specs.Shape.{item_of}
use Rattle.rc_syntax.specs.Tree as t
use Rattle.rc_linking.specs.Links.{clash_in}
use Rattle.rc_clashes.specs.Kept.{StandsFor}
use Rattle.rc_clashes.proofs.kept.Earlier.clash.Given as goal

abbrev pub invariant-loop-item : goal.invariant-loop-item
invariant-loop-item l = record { same : (earlier : List t.Item) (file : ℕ) → StandsFor l.self earlier → clash_in earlier file (map item_of l.items) ≡ clash_in earlier file (map item_of (drop l.item-index l.items)) }
