use Rattle.rc_linking.proofs.FileLimits.{limited}
use Rattle.rc_linking.proofs.laws.a_text_is_limited.Goals as goal

pub returns : goal.returns
returns c = limited
