use Rattle.rc_translation.proofs.Theorem.{region_code_means}
use Rattle.rc_translation.proofs.translation.region_code_means_the_same.Goals as goal

pub returns-clause-means : goal.returns-clause-means
returns-clause-means c program well input limits bytes = (region_code_means program well input limits bytes).0

pub returns-clause-leaves : goal.returns-clause-leaves
returns-clause-leaves c program well input limits bytes = (region_code_means program well input limits bytes).1
