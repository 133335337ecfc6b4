use Rattle.rc_annotations.proofs.Effects.{allowed_holds}
use Rattle.rc_annotations.proofs.allowed_facts_hold.Goals as goal

pub returns : goal.returns
returns c = allowed_holds
