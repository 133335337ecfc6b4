use Rattle.rc_labels.proofs.Images.{image_does}
use Rattle.rc_labels.proofs.label_rules.images_of_labelled_code_do_what_marked_code_does.Goals as goal

pub returns : goal.returns
returns g c n ops put waiting turning no_turns waits keeps marks r is = image_does n ops put waiting turning no_turns waits keeps marks r is
