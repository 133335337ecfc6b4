use Rattle.rc_syntax.specs.Shape as written
use Rattle.rc_judgements.proofs.PlacedItems.{answer_is_least}
use Rattle.rc_judgements.proofs.laws.first_answer_is_least.Goals as goal

pub returns : goal.returns
returns c = λ tokens program fault derives typed is_first. answer_is_least (written.tree_of c.args._tree.now) tokens program fault derives typed is_first
