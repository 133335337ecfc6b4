use Rattle.std.proofs.Common.{[], ap}
use Rattle.rc_core.specs.Runs.{bind}
use Rattle.rc_core.specs.Execution.{first_locals, result_of}
use Rattle.rc_core.proofs.Paths.{at_is, ways_live}
use Rattle.rc_core.proofs.Points.{is_behind, runs_at_its_point}
use Rattle.rc_core.proofs.liveness.execution_holds_what_is_live.Goals as goal

pub returns-clause-at : goal.returns-clause-at
returns-clause-at c = at_is

pub returns-clause-behind : goal.returns-clause-behind
returns-clause-behind c = is_behind

pub returns-clause-ways : goal.returns-clause-ways
returns-clause-ways c = ways_live

pub returns-clause-runs : goal.returns-clause-runs
returns-clause-runs c = λ ops program s f calls p locals w. runs_at_its_point ops program s f calls p locals w

pub returns-clause-bodies : goal.returns-clause-bodies
returns-clause-bodies c = λ ops program f calls arguments w. ap (λ r. bind r (result_of f.result)) (runs_at_its_point ops program f.body f calls [] (first_locals f arguments) w)
