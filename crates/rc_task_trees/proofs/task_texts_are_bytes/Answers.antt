use Rattle.rc_task_trees.proofs.Bytes.{all_bytes}
use Rattle.rc_task_trees.proofs.task_texts_are_bytes.Goals as goal

pub returns : goal.returns
returns c = all_bytes
