use Rattle.rc_lines.proofs.KeptKeys.{numbered}
use Rattle.rc_lines.proofs.kept.keys_number_what_is_kept.Goals as goal

pub returns : goal.returns
returns c = numbered
