use Rattle.rc_core.proofs.RunLaws.{meaning_under, left_under}
use Rattle.rc_core.proofs.laws.more_turns_change_nothing.Goals as goal

pub returns-clause-same : goal.returns-clause-same
returns-clause-same c = meaning_under

pub returns-clause-left : goal.returns-clause-left
returns-clause-left c = left_under
