use Rattle.rc_linked_files.proofs.Limits.{joined_limits}
use Rattle.rc_linked_files.proofs.laws.joined_files_keep_limits.Goals as goal

pub returns : goal.returns
returns c = joined_limits
