use Rattle.rc_judgements.proofs.BuiltinNames.{named}
use Rattle.rc_judgements.proofs.laws.builtins_are_known_by_name.Goals as goal

pub returns-clause-nothing_else : goal.returns-clause-nothing_else
returns-clause-nothing_else c = named
