use Rattle.rc_numbering.proofs.Sounds.{image_sound}
use Rattle.rc_numbering.proofs.Marks.{with_marks, image_faithful}
use Rattle.rc_numbering.proofs.image_rules.images_keep_the_rules_of_code.Goals as goal

pub returns-clause-unmarked : goal.returns-clause-unmarked
returns-clause-unmarked c r numberable = image_sound r numberable

pub returns-clause-sound : goal.returns-clause-sound
returns-clause-sound c r numberable = with_marks r numberable

pub returns-clause-faithful : goal.returns-clause-faithful
returns-clause-faithful c r numberable = image_faithful r numberable
