use Rattle.rc_labels.proofs.Worlds.{counts, waits}
use Rattle.rc_labels.proofs.label_rules.labelled_worlds_count_and_wait.Goals as goal

pub returns-clause-counts : goal.returns-clause-counts
returns-clause-counts c start n ops put turning within = counts n ops put turning within

pub returns-clause-waits : goal.returns-clause-waits
returns-clause-waits c start n ops put waiting world keeps = waits n ops put waiting world keeps
