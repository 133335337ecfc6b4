use Rattle.std.proofs.Common.{length}
use Rattle.rc_values.proofs.values.Values.+overwrite.Given as goal

abbrev pub decreases-overwrite : goal.decreases-overwrite
decreases-overwrite l = length l.values.now
