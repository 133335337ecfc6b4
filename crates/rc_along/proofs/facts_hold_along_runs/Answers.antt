use Rattle.rc_along.proofs.Along.{steps_keep_facts, code_keeps_facts, calls_keep, removed_fits}
use Rattle.rc_along.proofs.facts_hold_along_runs.Goals as goal

pub returns-clause-steps : goal.returns-clause-steps
returns-clause-steps c = steps_keep_facts

pub returns-clause-code : goal.returns-clause-code
returns-clause-code c = code_keeps_facts

pub returns-clause-calls : goal.returns-clause-calls
returns-clause-calls c = calls_keep

pub returns-clause-removed : goal.returns-clause-removed
returns-clause-removed c = removed_fits
