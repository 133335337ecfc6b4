use Rattle.rc_liveness.proofs.Mapped.{lists_are_maps}
use Rattle.rc_liveness.proofs.lists_are_maps.Goals as goal

pub returns : goal.returns
returns c = lists_are_maps
