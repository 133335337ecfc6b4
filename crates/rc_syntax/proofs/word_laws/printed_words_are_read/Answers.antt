use Rattle.rc_syntax.proofs.Printed.{printed_words}
use Rattle.rc_syntax.proofs.word_laws.printed_words_are_read.Goals as goal

pub returns : goal.returns
returns c = printed_words
