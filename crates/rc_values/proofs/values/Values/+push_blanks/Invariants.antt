use Rattle.std.proofs.Common.{length}
use Rattle.rc_values.proofs.values.Values.+push_blanks.Given as goal

abbrev pub decreases-push_blanks : goal.decreases-push_blanks
decreases-push_blanks l = length l.kinds.now
