use Rattle.rc_expression_copies.proofs.Copied.{boxed_call}
use Rattle.rc_expression_copies.proofs.nodes.call_node.Goals as goal

pub returns : goal.returns
returns c = boxed_call c.args.name c.args.values c.expr_node.result c.expr_node.ensures
