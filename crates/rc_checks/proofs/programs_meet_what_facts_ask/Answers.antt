use Rattle.rc_checks.proofs.Rights.{all_right}
use Rattle.rc_checks.proofs.Whole.{runs_meet}
use Rattle.rc_checks.proofs.programs_meet_what_facts_ask.Goals as goal

pub returns-clause-types : goal.returns-clause-types
returns-clause-types c = all_right

pub returns-clause-runs : goal.returns-clause-runs
returns-clause-runs c = runs_meet
