use Rattle.std.proofs.Common.{arith}
use Rattle.rc_base.proofs.Marks.{empty_tells}
use Rattle.rc_base.proofs.bit_set.BitSet.is_empty.Goals as goal

pub returns : goal.returns
returns c = rw (← c.self.view_is) (empty_tells c.self.inside.bits (omega arith))
