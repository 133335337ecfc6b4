use Rattle.rc_steps.proofs.Marks.{marks_fit}
use Rattle.rc_steps.proofs.steps.marked_values_fit.Goals as goal

pub returns : goal.returns
returns c = marks_fit
