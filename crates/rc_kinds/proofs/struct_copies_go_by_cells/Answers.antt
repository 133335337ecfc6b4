use Rattle.rc_kinds.proofs.Copying.{copies_go_by_cells}
use Rattle.rc_kinds.proofs.struct_copies_go_by_cells.Goals as goal

pub returns : goal.returns
returns c = copies_go_by_cells
