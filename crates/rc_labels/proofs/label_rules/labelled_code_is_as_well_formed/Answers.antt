use Rattle.rc_labels.proofs.Whole.{ordered, numberable}
use Rattle.rc_labels.proofs.label_rules.labelled_code_is_as_well_formed.Goals as goal

pub returns-clause-ordered : goal.returns-clause-ordered
returns-clause-ordered c n marks r fits = ordered n marks r fits

pub returns-clause-numberable : goal.returns-clause-numberable
returns-clause-numberable c n marks r is = numberable n marks r is
