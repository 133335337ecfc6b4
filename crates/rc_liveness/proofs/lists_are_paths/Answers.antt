use Rattle.rc_liveness.proofs.Told.{lists_tell}
use Rattle.rc_liveness.proofs.lists_are_paths.Goals as goal

pub returns : goal.returns
returns c = lists_tell
