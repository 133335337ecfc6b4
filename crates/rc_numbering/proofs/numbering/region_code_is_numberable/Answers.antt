use Rattle.rc_numbering.proofs.Programs.{program_is_numberable}
use Rattle.rc_numbering.proofs.numbering.region_code_is_numberable.Goals as goal

pub returns : goal.returns
returns c program well = program_is_numberable program well
