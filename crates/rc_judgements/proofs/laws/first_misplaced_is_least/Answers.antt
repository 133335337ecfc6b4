use Rattle.rc_syntax.specs.Shape as written
use Rattle.rc_judgements.proofs.PlacedOrder.{first_is_least}
use Rattle.rc_judgements.proofs.laws.first_misplaced_is_least.Goals as goal

pub returns : goal.returns
returns c = λ tokens fault derives is_first. first_is_least (written.tree_of c.args._tree.now) tokens fault derives is_first
