use Rattle.rc_outcomes.proofs.Tasks.{both_ways}
use Rattle.rc_outcomes.proofs.laws.tasks_do_what_their_text_does.Goals as goal

pub returns : goal.returns
returns c text choices input limits bytes are = both_ways text choices input limits bytes are
