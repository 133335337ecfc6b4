use Rattle.rc_code.proofs.Rows.{operands_are, operands_alone, made_of}
use Rattle.rc_code.proofs.laws.operands_are_those_of_the_table.Goals as goal

pub returns-clause-row : goal.returns-clause-row
returns-clause-row c = operands_are

pub returns-clause-only : goal.returns-clause-only
returns-clause-only c = operands_alone

pub returns-clause-all : goal.returns-clause-all
returns-clause-all c = made_of
