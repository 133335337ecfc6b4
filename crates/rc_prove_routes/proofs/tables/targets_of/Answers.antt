use Rattle.std.proofs.Common.{◌∙◌, false, List, Bool, get_or, ap}
use Rattle.rc_prove_routes.proofs.Ranking.{first_targets}
use Rattle.rc_prove_routes.proofs.tables.targets_of.Goals as goal

pub returns-clause-targets : goal.returns-clause-targets
returns-clause-targets c = λ image f is sound e. first_targets c.as_slice-targets.result.now c.args.count c.min.result image f c.min.ensures e sound (λ at. ap (λ (bs : List Bool). get_or bs at false) c.as_slice-targets.ensures.value ∙ is.targets at)
