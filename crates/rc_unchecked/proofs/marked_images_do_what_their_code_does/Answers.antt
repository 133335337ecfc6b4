use Rattle.rc_unchecked.proofs.Faithful.{does_what_its_code_does}
use Rattle.rc_unchecked.proofs.marked_images_do_what_their_code_does.Goals as goal

pub returns : goal.returns
returns c r fit small marks = does_what_its_code_does r fit small marks
