use Rattle.rc_task_programs.proofs.Accepted.{accepted_has, accepted_runs}
use Rattle.rc_task_programs.proofs.accepted_tasks_run.Goals as goal

pub returns : goal.returns
returns c = record { appended = accepted_has; same = accepted_runs }
