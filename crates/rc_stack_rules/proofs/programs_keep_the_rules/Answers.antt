use Rattle.rc_stack_rules.proofs.Loading.{all_keep_rules}
use Rattle.rc_stack_rules.proofs.programs_keep_the_rules.Goals as goal

pub returns : goal.returns
returns c program well = all_keep_rules program well
