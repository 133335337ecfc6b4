use Rattle.std.proofs.Common.{length}
use Rattle.rc_values.proofs.target.+cells_chosen.Given as goal

abbrev pub decreases-cells_chosen : goal.decreases-cells_chosen
decreases-cells_chosen l = length l.chosen.now
