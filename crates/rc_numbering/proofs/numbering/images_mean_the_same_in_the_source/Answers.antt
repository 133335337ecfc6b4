use Rattle.rc_numbering.proofs.Programs.{view_means, view_leaves}
use Rattle.rc_numbering.proofs.numbering.images_mean_the_same_in_the_source.Goals as goal

pub returns-clause-means : goal.returns-clause-means
returns-clause-means c program well = view_means program well

pub returns-clause-leaves : goal.returns-clause-leaves
returns-clause-leaves c program well = view_leaves program well
