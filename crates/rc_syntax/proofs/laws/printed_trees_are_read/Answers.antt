use Rattle.rc_syntax.proofs.PrintedTrees.{words_read, tree_read, text_read}
use Rattle.rc_syntax.proofs.laws.printed_trees_are_read.Goals as goal

pub returns : goal.returns
returns c = record { words = words_read; tree = tree_read; text = text_read }
