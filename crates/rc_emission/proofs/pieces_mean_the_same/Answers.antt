use Rattle.rc_emission.proofs.PiecesDo.{expressions_mean, statements_mean}
use Rattle.rc_emission.proofs.pieces_mean_the_same.Goals as goal

pub returns-clause-expressions : goal.returns-clause-expressions
returns-clause-expressions c start ops f slots serves = expressions_mean ops f slots serves

pub returns-clause-statements : goal.returns-clause-statements
returns-clause-statements c start ops f slots serves turning = statements_mean ops f slots serves turning
