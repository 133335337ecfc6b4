use Rattle.rc_linked_files.proofs.Mains.{linked_program}
use Rattle.rc_linked_files.proofs.laws.files_have_a_program_together.Goals as goal

pub returns : goal.returns
returns c = linked_program
