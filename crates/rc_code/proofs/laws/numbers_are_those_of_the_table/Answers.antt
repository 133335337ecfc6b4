use Rattle.rc_code.proofs.Rows.{row_is, number_is}
use Rattle.rc_code.proofs.laws.numbers_are_those_of_the_table.Goals as goal

pub returns-clause-row : goal.returns-clause-row
returns-clause-row c = row_is

pub returns-clause-number : goal.returns-clause-number
returns-clause-number c = number_is
