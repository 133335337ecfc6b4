use Rattle.rc_cells.proofs.Changes.{references_follow}
use Rattle.rc_cells.proofs.laws.references_follow.Goals as goal

pub returns : goal.returns
returns c = references_follow
