use Rattle.rc_code.proofs.Rows.{cell_of_tag, cell_tag_is}
use Rattle.rc_code.proofs.laws.tags_are_those_of_cells.Goals as goal

pub returns-clause-cell : goal.returns-clause-cell
returns-clause-cell c = cell_of_tag

pub returns-clause-tag : goal.returns-clause-tag
returns-clause-tag c = cell_tag_is
