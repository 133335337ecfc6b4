use Rattle.rc_sealed.proofs.Worked.{examples}
use Rattle.rc_sealed.proofs.examples_are_judged.Goals as goal

pub returns : goal.returns
returns c = examples
