use Rattle.rc_core.proofs.RunLaws.{always}
use Rattle.rc_core.proofs.laws.acts_are_added.Goals as goal

pub returns : goal.returns
returns c = always _ (λ u w s l. (l.acts, l.extended, l.input))
