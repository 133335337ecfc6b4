use Rattle.rc_expr.proofs.Values.{boxed_call}
use Rattle.rc_expr.proofs.nodes.call_node.Goals as goal

pub returns-clause-ok : goal.returns-clause-ok
returns-clause-ok c = boxed_call c.args.name c.args.values c.boxed.result c.boxed.ensures.ok
