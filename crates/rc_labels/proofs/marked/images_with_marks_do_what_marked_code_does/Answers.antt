use Rattle.rc_labels.proofs.MarkedImages.{does_what_marked_code_does}
use Rattle.rc_labels.proofs.marked.images_with_marks_do_what_marked_code_does.Goals as goal

pub returns : goal.returns
returns g c does waiting marks r turning no_turns waits keeps numberable only = does_what_marked_code_does does waiting turning no_turns waits keeps r numberable marks only
