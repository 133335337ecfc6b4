use Rattle.rc_numbering.proofs.SourceWaits.{source_waits}
use Rattle.rc_numbering.proofs.numbering.calls_of_the_source_give_back_what_waits.Goals as goal

pub returns : goal.returns
returns c = source_waits
