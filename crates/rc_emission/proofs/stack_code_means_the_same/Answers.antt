use Rattle.rc_emission.proofs.Theorem.{means, means_with}
use Rattle.rc_emission.proofs.stack_code_means_the_same.Goals as goal

pub returns-clause-chosen : goal.returns-clause-chosen
returns-clause-chosen c start ops r turning ordered = means ops turning r ordered

pub returns-clause-any_locals : goal.returns-clause-any_locals
returns-clause-any_locals c start ops r slots turning serves = means_with ops turning r slots serves
