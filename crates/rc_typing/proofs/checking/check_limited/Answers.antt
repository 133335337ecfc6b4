use Rattle.rc_syntax.specs.Shape.{tree_of}
use Rattle.rc_typing.proofs.checking.check_limited.Goals as goal

pub returns-in-Err : goal.returns-in-Err
returns-in-Err c = c.fault_of.ensures (tree_of c.args.tree.now) c.in-Err.ensures.err
