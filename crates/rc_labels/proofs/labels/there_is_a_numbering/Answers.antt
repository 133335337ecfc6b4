use Rattle.rc_labels.proofs.Numberings.{read_there}
use Rattle.rc_labels.proofs.labels.there_is_a_numbering.Goals as goal

pub returns : goal.returns
returns c l = read_there l
