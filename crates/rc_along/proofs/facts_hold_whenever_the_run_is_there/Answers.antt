use Rattle.rc_along.proofs.Coming.{facts_hold_whenever}
use Rattle.rc_along.proofs.facts_hold_whenever_the_run_is_there.Goals as goal

pub returns : goal.returns
returns c = facts_hold_whenever
