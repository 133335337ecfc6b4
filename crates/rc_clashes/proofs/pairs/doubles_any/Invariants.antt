use Rattle.std.proofs.Common.{◌≡◌, drop}
use Rattle.rc_syntax.specs.Shape.{item_of}
use Rattle.rc_linking.specs.Clash.{any, doubles}
use Rattle.rc_clashes.specs.Kept.{items_of}
use Rattle.rc_clashes.proofs.pairs.doubles_any.Given as goal

abbrev pub invariant-loop-earlier : goal.invariant-loop-earlier
invariant-loop-earlier l = record { same : any (λ i. doubles i (item_of l.item)) (items_of l.kept) ≡ any (λ i. doubles i (item_of l.item)) (items_of (drop l.earlier-index l.kept)) }
