use Rattle.rc_unchecked.proofs.Unchecked.{means_the_same, leaves_the_same}
use Rattle.rc_unchecked.proofs.images_without_needless_checks_mean_the_same.Goals as goal

pub returns-clause-means : goal.returns-clause-means
returns-clause-means c program well bounds small = means_the_same program well bounds small

pub returns-clause-leaves : goal.returns-clause-leaves
returns-clause-leaves c program well bounds small = leaves_the_same program well bounds small
