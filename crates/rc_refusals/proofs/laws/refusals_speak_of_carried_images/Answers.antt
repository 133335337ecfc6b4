use Rattle.rc_refusals.proofs.Speaking.{carried_refusals_speak}
use Rattle.rc_refusals.proofs.laws.refusals_speak_of_carried_images.Goals as goal

pub returns : goal.returns
returns c = carried_refusals_speak
