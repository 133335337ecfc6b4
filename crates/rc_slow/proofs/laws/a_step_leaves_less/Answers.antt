use Rattle.rc_slow.proofs.Sizes.{step_falls}
use Rattle.rc_slow.proofs.laws.a_step_leaves_less.Goals as goal

pub returns : goal.returns
returns c = step_falls
