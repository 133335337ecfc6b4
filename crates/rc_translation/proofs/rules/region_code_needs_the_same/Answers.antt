use Rattle.rc_translation.proofs.VariablesCounted.{has_its_variables}
use Rattle.rc_translation.proofs.rules.region_code_needs_the_same.Goals as goal

pub returns : goal.returns
returns c program f = has_its_variables program f
