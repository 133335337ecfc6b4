use Rattle.rc_labels.proofs.Runs.{main_reads}
use Rattle.rc_labels.proofs.labels.labelled_code_does_what_marked_code_does.Goals as goal

pub returns : goal.returns
returns g c n ops put marks r = main_reads n ops put marks r
