use Rattle.rc_stmt.proofs.Values.{boxed_for}
use Rattle.rc_stmt.proofs.nodes.for_node.Goals as goal

pub returns-clause-ok : goal.returns-clause-ok
returns-clause-ok c =
    boxed_for c.args.spot c.args.start c.into_inner.result c.args.test c.unboxed.result c.args.then (c.unboxed-2).result c.args.body c.boxed.result
    c.into_inner.ensures c.unboxed.ensures (c.unboxed-2).ensures c.boxed.ensures.ok
