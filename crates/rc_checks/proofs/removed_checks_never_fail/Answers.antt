use Rattle.rc_checks.proofs.Whole.{removed_never_fail}
use Rattle.rc_checks.proofs.removed_checks_never_fail.Goals as goal

pub returns : goal.returns
returns c = removed_never_fail
