use Rattle.rc_code.proofs.Marks.{same_where_right, right_where_same}
use Rattle.rc_code.proofs.laws.marks_are_right_where_checks_pass.Goals as goal

pub returns-clause-same : goal.returns-clause-same
returns-clause-same c = same_where_right

pub returns-clause-right : goal.returns-clause-right
returns-clause-right c = right_where_same
