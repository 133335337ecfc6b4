use Rattle.std.proofs.Common.{length}
use Rattle.rc_crossing.proofs.crossing.+enter.Given as goal

abbrev pub decreases-enter : goal.decreases-enter
decreases-enter l = length l.entries.now
