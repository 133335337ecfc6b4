use Rattle.rc_cells.proofs.Together.{sets_follow}
use Rattle.rc_cells.proofs.laws.sets_follow.Goals as goal

pub returns : goal.returns
returns c = sets_follow
