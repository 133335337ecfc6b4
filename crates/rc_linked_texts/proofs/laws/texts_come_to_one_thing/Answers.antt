use Rattle.rc_linked_texts.proofs.SeveralTexts.{come_to_one, come_to_some}
use Rattle.rc_linked_texts.proofs.laws.texts_come_to_one_thing.Goals as goal

pub returns-clause-some : goal.returns-clause-some
returns-clause-some c = come_to_some

pub returns-clause-one : goal.returns-clause-one
returns-clause-one c = come_to_one
