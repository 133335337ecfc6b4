use Rattle.rc_labels.proofs.Views.{undoes_labels}
use Rattle.rc_labels.proofs.marked.images_undo_labels.Goals as goal

pub returns : goal.returns
returns g c n zero_line ops put marks r only = undoes_labels n zero_line ops put marks r only
