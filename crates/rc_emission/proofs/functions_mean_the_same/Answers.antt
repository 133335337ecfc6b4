use Rattle.rc_emission.proofs.Theorem.{functions_mean}
use Rattle.rc_emission.proofs.functions_mean_the_same.Goals as goal

pub returns : goal.returns
returns c start ops r turning ordered = functions_mean ops turning r ordered
