use Rattle.rc_stack_rules.proofs.NamedLocals.{names_locals, all_name_locals}
use Rattle.rc_stack_rules.proofs.locals_are_there.Goals as goal

pub returns-clause-functions : goal.returns-clause-functions
returns-clause-functions c f has = names_locals f has

pub returns-clause-programs : goal.returns-clause-programs
returns-clause-programs c program well = all_name_locals program well
