use Rattle.rc_emission.proofs.Programs.{program_means, program_leaves}
use Rattle.rc_emission.proofs.programs_mean_the_same.Goals as goal

pub returns-clause-means : goal.returns-clause-means
returns-clause-means c program well = program_means program well

pub returns-clause-leaves : goal.returns-clause-leaves
returns-clause-leaves c program well = program_leaves program well
