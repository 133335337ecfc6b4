use Rattle.rc_worlds.proofs.Computed.{examples}
use Rattle.rc_worlds.proofs.images_compute.Goals as goal

pub returns : goal.returns
returns c = examples
