use Rattle.rc_loader.proofs.Firsts.{one_first, none_where_sound}
use Rattle.rc_loader.proofs.Totals.{sound_or_first}
use Rattle.rc_loader.proofs.laws.there_is_one_first_violation.Goals as goal

pub returns-clause-some : goal.returns-clause-some
returns-clause-some c = sound_or_first

pub returns-clause-one : goal.returns-clause-one
returns-clause-one c = one_first

pub returns-clause-none : goal.returns-clause-none
returns-clause-none c = none_where_sound
