use Rattle.rc_outcomes.proofs.StoredImages.{linked_runs_as}
use Rattle.rc_outcomes.proofs.laws.a_linked_image_runs_as_its_program.Goals as goal

pub returns : goal.returns
returns c files to has = linked_runs_as files to has
