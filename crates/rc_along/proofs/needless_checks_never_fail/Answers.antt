use Rattle.rc_along.proofs.Along.{marked_calls_same}
use Rattle.rc_along.proofs.needless_checks_never_fail.Goals as goal

pub returns : goal.returns
returns c r temporaries a consistent rights marks proven put trusting = marked_calls_same r temporaries a consistent rights marks proven put trusting
