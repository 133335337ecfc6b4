use Rattle.rc_worlds.proofs.Ended.{steps_mean}
use Rattle.rc_worlds.proofs.steps_come_to_the_meaning.Goals as goal

pub returns : goal.returns
returns c = steps_mean
