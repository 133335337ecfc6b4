use Rattle.rc_translation.proofs.Counted.{points_are_counted}
use Rattle.rc_translation.proofs.Lives.{statement_lives}
use Rattle.rc_translation.proofs.translation.region_code_counts_the_same.Goals as goal

pub returns-clause-points : goal.returns-clause-points
returns-clause-points c program = points_are_counted program

pub returns-clause-live : goal.returns-clause-live
returns-clause-live c program f s ways x = statement_lives program f s ways x
