use Rattle.rc_numbering.proofs.ExamplesComputed.{examples}
use Rattle.rc_numbering.proofs.joined_laws.image_examples_compute.Goals as goal

pub returns : goal.returns
returns c = examples
