use Rattle.rc_edges.proofs.Restricting.{greatest_removes, greatest_one}
use Rattle.rc_edges.proofs.inferred.greatest_annotations_decide.Goals as goal

pub returns-clause-removable : goal.returns-clause-removable
returns-clause-removable c = greatest_removes

pub returns-clause-one : goal.returns-clause-one
returns-clause-one c = greatest_one
