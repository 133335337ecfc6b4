use Rattle.rc_translation.proofs.RegionComputed.{examples}
use Rattle.rc_translation.proofs.translation.region_examples_compute.Goals as goal

pub returns : goal.returns
returns c = examples
