use Rattle.rc_sealings.proofs.Faults.{none_where_proved, one_fault}
use Rattle.rc_sealings.proofs.proofs_fail_in_one_place.Goals as goal

pub returns-clause-one : goal.returns-clause-one
returns-clause-one c = one_fault

pub returns-clause-none : goal.returns-clause-none
returns-clause-none c = none_where_proved
