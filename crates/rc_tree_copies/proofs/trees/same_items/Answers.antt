use Rattle.std.proofs.Common.{map}
use Rattle.rc_syntax.specs.Shape.{item_of}
use Rattle.rc_tree_copies.proofs.Unmoved.{unmoved}
use Rattle.rc_tree_copies.proofs.trees.same_items.Goals as goal

pub returns : goal.returns
returns c = unmoved (map item_of c.args.is.now) c.copy_items.result c.copy_items.ensures
