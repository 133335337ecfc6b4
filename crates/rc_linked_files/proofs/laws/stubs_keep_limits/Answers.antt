use Rattle.rc_linked_files.proofs.StubLimits.{stubbed_limits}
use Rattle.rc_linked_files.proofs.laws.stubs_keep_limits.Goals as goal

pub returns : goal.returns
returns c = stubbed_limits
