use Rattle.rc_checks.proofs.Whole.{facts_hold}
use Rattle.rc_checks.proofs.facts_hold_whenever_the_run_is_there.Goals as goal

pub returns : goal.returns
returns c = facts_hold
