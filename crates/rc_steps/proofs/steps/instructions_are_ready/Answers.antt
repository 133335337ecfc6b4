use Rattle.rc_steps.proofs.Readiness.{ready}
use Rattle.rc_steps.proofs.steps.instructions_are_ready.Goals as goal

pub returns : goal.returns
returns c = ready
