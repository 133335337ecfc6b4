use Rattle.rc_syntax.proofs.CutLaws.{one_place}
use Rattle.rc_syntax.proofs.word_laws.one_unread_place.Goals as goal

pub returns : goal.returns
returns c = one_place
