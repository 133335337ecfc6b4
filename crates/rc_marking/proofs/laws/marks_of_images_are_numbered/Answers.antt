use Rattle.rc_marking.proofs.Numbered.{marks_numbered}
use Rattle.rc_marking.proofs.laws.marks_of_images_are_numbered.Goals as goal

pub returns : goal.returns
returns c bits r numberable = marks_numbered r bits numberable
