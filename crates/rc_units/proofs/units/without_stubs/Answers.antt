use Rattle.std.proofs.Common.{◌≡◌, ◌∙◌, List, ap, map}
use Rattle.rc_syntax.specs.Shape.{item_of, tree_of}
use Rattle.rc_syntax.specs.Tree as t
use Rattle.rc_units.proofs.Cutting.{cut, linkable}
use Rattle.rc_units.proofs.units.without_stubs.Goals as goal

pub invariant_of-result : goal.invariant_of-result
invariant_of-result c =
    let left : map item_of c.truncate.new.self.items ≡ map item_of c.args.tree.now.items.items =
    cut c.args.tree.now.last c.args.whole c.args.tree.now c.len.result c.truncate.new.self.items c.requires.whole (c.len.ensures ∙ c.args.tree.now.items.ok.0) c.truncate.ensures.items in
    linkable c.args.tree.now.last (tree_of c.args.tree.now) (tree_of (record { items = c.truncate.new.self; last = c.args.whole.last })) (ap (λ (is : List t.Item). record { items = is }) left) c.requires.limited c.requires.typed

pub returns-clause-tree : goal.returns-clause-tree
returns-clause-tree c =
    ap (λ (is : List t.Item). record { items = is })
    (cut c.args.tree.now.last c.args.whole c.args.tree.now c.len.result c.truncate.new.self.items c.requires.whole (c.len.ensures ∙ c.args.tree.now.items.ok.0) c.truncate.ensures.items)
