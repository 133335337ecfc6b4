use Rattle.rc_slow.proofs.Whole.{started_right, steps_right}
use Rattle.rc_slow.proofs.laws.the_machine_is_right.Goals as goal

pub returns-clause-starts : goal.returns-clause-starts
returns-clause-starts c = started_right

pub returns-clause-steps : goal.returns-clause-steps
returns-clause-steps c = steps_right
