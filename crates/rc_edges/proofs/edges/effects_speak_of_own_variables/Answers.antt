use Rattle.rc_edges.proofs.Owning.{functions_own}
use Rattle.rc_edges.proofs.edges.effects_speak_of_own_variables.Goals as goal

pub returns : goal.returns
returns c = functions_own
