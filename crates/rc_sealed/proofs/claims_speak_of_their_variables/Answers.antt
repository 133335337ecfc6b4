use Rattle.rc_sealed.proofs.Claimed.{are_over}
use Rattle.rc_sealed.proofs.claims_speak_of_their_variables.Goals as goal

pub returns : goal.returns
returns c = are_over
