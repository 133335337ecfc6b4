use Rattle.rc_tree_copies.proofs.Copied.{boxed_block}
use Rattle.rc_tree_copies.proofs.nodes.block_node.Goals as goal

pub returns : goal.returns
returns c = boxed_block c.args.at c.args.body c.stmt_node.result c.stmt_node.ensures
