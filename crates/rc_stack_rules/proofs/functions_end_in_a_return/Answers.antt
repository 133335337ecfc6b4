use Rattle.rc_core.specs.Types.{int}
use Rattle.rc_stack_rules.proofs.Loading.{ends_in_return}
use Rattle.rc_stack_rules.proofs.functions_end_in_a_return.Goals as goal

pub returns : goal.returns
returns c f = ends_in_return (λ g. int) (λ g. int) f
