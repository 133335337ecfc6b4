use Rattle.rc_boundaries.proofs.Every.{numbers_more}
use Rattle.rc_prove.proofs.reading.numbers.Goals as goal

pub loop-x-preserved : goal.loop-x-preserved
loop-x-preserved c = numbers_more c.loop-x.all.items _ c.loop-x.x c.in_ok-push.ensures.items c.loop-x.invariant
