use Rattle.std.proofs.Common.{arith}
use Rattle.rc_tree_copies.proofs.Copied.{copied_all}
use Rattle.rc_tree_copies.proofs.lists.copies.Goals as goal

pub returns : goal.returns
returns g c = copied_all (g.T.Part.moved c.args.by) g.T.Part.shape c.args.parts.now c.loop-part.copies.items c.loop-part.part-index (omega arith) c.loop-part.invariant.same
