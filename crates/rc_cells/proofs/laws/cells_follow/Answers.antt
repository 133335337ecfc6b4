use Rattle.rc_cells.proofs.Cells.{cells_follow}
use Rattle.rc_cells.proofs.laws.cells_follow.Goals as goal

pub returns : goal.returns
returns c = cells_follow
