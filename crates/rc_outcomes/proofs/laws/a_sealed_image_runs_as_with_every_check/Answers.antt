use Rattle.rc_outcomes.proofs.SealedRuns.{runs_checked}
use Rattle.rc_outcomes.proofs.laws.a_sealed_image_runs_as_with_every_check.Goals as goal

pub returns : goal.returns
returns c = runs_checked
