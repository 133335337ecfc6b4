use Rattle.rc_numbering.proofs.Programs.{rlang_is_numberable}
use Rattle.rc_numbering.proofs.Joined.{region_means, region_leaves}
use Rattle.rc_numbering.proofs.joined_laws.images_mean_what_region_code_means.Goals as goal

pub returns-clause-means : goal.returns-clause-means
returns-clause-means c r fit small = region_means r fit (rlang_is_numberable r fit) small

pub returns-clause-leaves : goal.returns-clause-leaves
returns-clause-leaves c r fit small = region_leaves r fit (rlang_is_numberable r fit) small
