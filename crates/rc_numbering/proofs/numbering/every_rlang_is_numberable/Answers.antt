use Rattle.rc_numbering.proofs.Programs.{rlang_is_numberable}
use Rattle.rc_numbering.proofs.numbering.every_rlang_is_numberable.Goals as goal

pub returns : goal.returns
returns c r fits = rlang_is_numberable r fits
