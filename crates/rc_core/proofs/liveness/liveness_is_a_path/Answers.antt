use Rattle.rc_core.proofs.Paths.{statement_live, statements_live, while_body_live, repeat_body_live, for_body_live, for_third_live, if_live, while_live, do_live, for_live}
use Rattle.rc_core.proofs.liveness.liveness_is_a_path.Goals as goal

pub returns-clause-one : goal.returns-clause-one
returns-clause-one c = statement_live

pub returns-clause-all : goal.returns-clause-all
returns-clause-all c = statements_live

pub returns-clause-in_while : goal.returns-clause-in_while
returns-clause-in_while c = while_body_live

pub returns-clause-in_do : goal.returns-clause-in_do
returns-clause-in_do c = repeat_body_live

pub returns-clause-in_for : goal.returns-clause-in_for
returns-clause-in_for c = for_body_live

pub returns-clause-between_rounds : goal.returns-clause-between_rounds
returns-clause-between_rounds c = for_third_live

pub returns-clause-behind_if : goal.returns-clause-behind_if
returns-clause-behind_if c = if_live

pub returns-clause-behind_while : goal.returns-clause-behind_while
returns-clause-behind_while c = while_live

pub returns-clause-behind_do : goal.returns-clause-behind_do
returns-clause-behind_do c = do_live

pub returns-clause-behind_for : goal.returns-clause-behind_for
returns-clause-behind_for c = for_live
