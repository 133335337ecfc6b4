use Rattle.rc_edges.proofs.Steps.{begun, ended}
use Rattle.rc_edges.proofs.searching.searches_come_to_the_greatest.Goals as goal

pub returns-clause-begins : goal.returns-clause-begins
returns-clause-begins c = begun

pub returns-clause-ends : goal.returns-clause-ends
returns-clause-ends c = ended
