use Rattle.std.proofs.Common.{subst, sym}
use Rattle.rc_syntax.specs.Shape.{tree_of}
use Rattle.rc_core.specs.Shapes.{program_of}
use Rattle.rc_deletes.specs.Limits.{IsLimited}
use Rattle.rc_units.proofs.Cutting.{alone}
use Rattle.rc_units.proofs.checking.unit.Goals as goal

pub check_limited-requires : goal.check_limited-requires
check_limited-requires c = subst IsLimited (sym c.in-Ok.ensures.tree) (c.stubs_keep_limits.ensures c.args.tree.now.last (tree_of c.args.tree.now) c.requires.limited)

pub without_stubs-requires-clause-typed : goal.without_stubs-requires-clause-typed
without_stubs-requires-clause-typed c = alone c.args.tree.now.last (tree_of c.args.tree.now) (tree_of c.in-Ok.whole) (program_of c.in-Ok-check_limited._program) c.in-Ok.ensures.tree c.in-Ok-check_limited.ensures

pub returns-in-Ok-check_limited-clause-typed : goal.returns-in-Ok-check_limited-clause-typed
returns-in-Ok-check_limited-clause-typed c = alone c.args.tree.now.last (tree_of c.args.tree.now) (tree_of c.in-Ok.whole) (program_of c.in-Ok-check_limited._program) c.in-Ok.ensures.tree c.in-Ok-check_limited.ensures
