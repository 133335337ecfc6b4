use Rattle.rc_stack_rules.proofs.KeptRlang.{rlang_keeps_rules}
use Rattle.rc_stack_rules.proofs.region_code_keeps_the_rules.Goals as goal

pub returns : goal.returns
returns c r fits = rlang_keeps_rules r fits
