use Rattle.rc_edges.proofs.Marks.{marks_decided, one_greatest}
use Rattle.rc_edges.proofs.greatest.region_code_has_a_greatest_annotation.Goals as goal

pub returns-clause-greatest : goal.returns-clause-greatest
returns-clause-greatest c = one_greatest

pub returns-clause-decided : goal.returns-clause-decided
returns-clause-decided c = marks_decided
