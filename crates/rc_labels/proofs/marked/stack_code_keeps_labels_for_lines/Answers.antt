use Rattle.rc_labels.proofs.Functions.{says_the_code, names_the_same}
use Rattle.rc_labels.proofs.marked.stack_code_keeps_labels_for_lines.Goals as goal

pub returns-clause-code : goal.returns-clause-code
returns-clause-code c n zero_line marks r = says_the_code n zero_line marks r

pub returns-clause-names : goal.returns-clause-names
returns-clause-names c n zero_line marks r = names_the_same n zero_line marks r
