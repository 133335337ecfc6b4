use Rattle.rc_core.proofs.RunLaws.{always, spent_at_none, enough as nesting}
use Rattle.rc_core.proofs.laws.turns_never_grow.Goals as goal

pub returns-clause-fewer : goal.returns-clause-fewer
returns-clause-fewer c = always _ (λ u w s l. l.turns)

pub returns-clause-spent : goal.returns-clause-spent
returns-clause-spent c = spent_at_none

pub returns-clause-enough : goal.returns-clause-enough
returns-clause-enough c = nesting
