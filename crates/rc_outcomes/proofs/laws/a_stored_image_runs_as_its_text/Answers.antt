use Rattle.rc_outcomes.proofs.StoredImages.{runs_the_same}
use Rattle.rc_outcomes.proofs.laws.a_stored_image_runs_as_its_text.Goals as goal

pub returns : goal.returns
returns c files from to has = runs_the_same files from to has
