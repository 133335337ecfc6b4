use Rattle.rc_linked_files.proofs.Cells.{program_small}
use Rattle.rc_linked_files.proofs.laws.a_joined_program_is_not_large.Goals as goal

pub returns : goal.returns
returns c = program_small
