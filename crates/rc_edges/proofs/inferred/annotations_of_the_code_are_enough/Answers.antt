use Rattle.rc_edges.proofs.Restricting.{inside_either, only_consistent}
use Rattle.rc_edges.proofs.inferred.annotations_of_the_code_are_enough.Goals as goal

pub returns-clause-consistent : goal.returns-clause-consistent
returns-clause-consistent c = only_consistent

pub returns-clause-inside : goal.returns-clause-inside
returns-clause-inside c = inside_either
