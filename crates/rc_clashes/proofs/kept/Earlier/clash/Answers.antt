use Rattle.std.proofs.Common.{◌∙◌, ◌+◌, ap, sym, drop, map}
use Rattle.rc_syntax.specs.Shape.{item_of}
use Rattle.rc_linking.specs.Links.{clash_in, or_else}
use Rattle.rc_clashes.proofs.Clashing.{clash_at}
use Rattle.rc_clashes.proofs.kept.Earlier.clash.Goals as goal

pub returns-in-Some : goal.returns-in-Some
returns-in-Some c = λ earlier file stand.
    let rest = clash_in earlier file (map item_of (drop (c.loop-item.item-index + 1) c.args.items.now)) in
    sym (c.loop-item.invariant.same earlier file stand ∙ clash_at earlier file c.args.items.now c.loop-item.item-index c.item-item.result c.loop-item-test.true c.item-item.is
    ∙ ap (λ o. or_else o rest) (sym (c.in-Some.ensures earlier file stand)))
