use Rattle.rc_annotations.proofs.WorldFacts.{operations_say}
use Rattle.rc_annotations.proofs.operations_do_what_effects_say.Goals as goal

pub returns : goal.returns
returns c = operations_say
