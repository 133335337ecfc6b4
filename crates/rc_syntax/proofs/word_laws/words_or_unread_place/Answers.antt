use Rattle.rc_syntax.proofs.CutLaws.{words_or_stop, read_or_stopped}
use Rattle.rc_syntax.proofs.word_laws.words_or_unread_place.Goals as goal

pub returns : goal.returns
returns c = record { either = words_or_stop; not_both = read_or_stopped }
