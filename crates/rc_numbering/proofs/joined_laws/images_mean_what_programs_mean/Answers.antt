use Rattle.rc_numbering.proofs.Joined.{image_means, image_leaves}
use Rattle.rc_numbering.proofs.joined_laws.images_mean_what_programs_mean.Goals as goal

pub returns-clause-means : goal.returns-clause-means
returns-clause-means c program well bounds small = image_means program well bounds small

pub returns-clause-leaves : goal.returns-clause-leaves
returns-clause-leaves c program well bounds small = image_leaves program well bounds small
