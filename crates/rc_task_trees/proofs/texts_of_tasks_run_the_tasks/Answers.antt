use Rattle.rc_task_trees.proofs.Meanings.{has_program, means_tasks}
use Rattle.rc_task_trees.proofs.texts_of_tasks_run_the_tasks.Goals as goal

pub returns : goal.returns
returns c = record { appended = λ text digits items program h. (has_program text digits items program h).0; same = means_tasks }
