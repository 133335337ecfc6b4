use Rattle.rc_stack_rules.proofs.Loading.{keeps_rules}
use Rattle.rc_stack_rules.proofs.functions_keep_the_rules.Goals as goal

pub returns : goal.returns
returns c global_ty result_ty f in_order = keeps_rules global_ty result_ty f in_order
