use Rattle.rc_steps.proofs.Following.{follows}
use Rattle.rc_steps.proofs.steps.machines_come_to_the_meaning.Goals as goal

pub returns : goal.returns
returns c = follows
