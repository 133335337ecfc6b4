use Rattle.rc_marks.proofs.MarksCounted.{has_its_marks, no_marks}
use Rattle.rc_marks.proofs.marks.marks_are_those_of_the_mask.Goals as goal

pub returns-clause-all : goal.returns-clause-all
returns-clause-all c mask r numberable = has_its_marks r mask numberable

pub returns-clause-unmarked : goal.returns-clause-unmarked
returns-clause-unmarked c r = no_marks r
