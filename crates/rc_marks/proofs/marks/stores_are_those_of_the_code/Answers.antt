use Rattle.rc_marks.proofs.Written.{stores_written}
use Rattle.rc_marks.proofs.marks.stores_are_those_of_the_code.Goals as goal

pub returns : goal.returns
returns c r = stores_written r
