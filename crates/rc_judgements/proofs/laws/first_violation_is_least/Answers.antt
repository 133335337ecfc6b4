use Rattle.rc_syntax.specs.Shape as written
use Rattle.rc_judgements.proofs.InOrder.{first_in_text}
use Rattle.rc_judgements.proofs.laws.first_violation_is_least.Goals as goal

pub returns : goal.returns
returns c = λ tokens first derives is_first. first_in_text (written.tree_of c.args._tree.now) tokens first derives is_first
