use Rattle.rc_emission.proofs.ExamplesComputed.{examples}
use Rattle.rc_emission.proofs.stack_examples_compute.Goals as goal

pub returns : goal.returns
returns c = examples
