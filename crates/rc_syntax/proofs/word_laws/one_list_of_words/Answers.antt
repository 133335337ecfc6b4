use Rattle.rc_syntax.proofs.CutLaws.{one_list}
use Rattle.rc_syntax.proofs.word_laws.one_list_of_words.Goals as goal

pub returns : goal.returns
returns c = one_list
