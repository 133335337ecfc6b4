use Rattle.rc_task_programs.proofs.Longer.{longer, too_long}
use Rattle.rc_task_programs.proofs.task_texts_are_longer.Goals as goal

pub returns : goal.returns
returns c = record { longer = longer; too_long = too_long }
