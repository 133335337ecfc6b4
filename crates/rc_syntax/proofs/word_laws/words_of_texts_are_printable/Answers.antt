use Rattle.rc_syntax.proofs.Printed.{cut_printable}
use Rattle.rc_syntax.proofs.word_laws.words_of_texts_are_printable.Goals as goal

pub returns : goal.returns
returns c = λ text tokens x. cut_printable x
