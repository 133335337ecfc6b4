use Rattle.rc_outcomes.proofs.OneOutcome.{accepted_never}
use Rattle.rc_outcomes.proofs.laws.an_accepted_text_never_touches_deleted.Goals as goal

pub returns : goal.returns
returns c = accepted_never
