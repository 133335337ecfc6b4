use Rattle.std.proofs.Common.{List, ◌++◌, subst, sym, take, map, arith}
use Rattle.std.proofs.lemmas.List.{take_all}
use Rattle.rc_syntax.specs.declared.tree.Item.{Item}
use Rattle.rc_syntax.specs.Shape.{item_of}
use Rattle.rc_syntax.specs.Tree as t
use Rattle.rc_clashes.specs.Kept.{StandsFor}
use Rattle.rc_clashes.proofs.Clashing.{more_items}
use Rattle.rc_clashes.proofs.kept.Earlier.add.Goals as goal

pub loop-item-preserved : goal.loop-item-preserved
loop-item-preserved c = record {
  same = λ earlier stand.
      subst (λ (is : List t.Item). StandsFor c.add_item.new.self is) (sym (more_items earlier c.args.items.now c.loop-item.item-index c.item-item.result c.loop-item-test.true c.item-item.is))
      (c.in_ok-add_item.ensures (earlier ++ map item_of (take c.loop-item.item-index c.args.items.now)) (c.loop-item.invariant.same earlier stand));
}

pub returns : goal.returns
returns c = λ earlier stand.
    subst (λ (is : List Item). StandsFor c.loop-item.self (earlier ++ map item_of is)) (take_all c.loop-item.item-index c.args.items.now (omega (arith, c.loop-item-test.false))) (c.loop-item.invariant.same earlier stand)
