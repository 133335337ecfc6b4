use Rattle.rc_syntax.specs.Shape as written
use Rattle.rc_judgements.proofs.PlacedItems.{same_faults}
use Rattle.rc_judgements.proofs.laws.shows_misplaced.Goals as goal

pub returns : goal.returns
returns c = λ program typed. same_faults (written.tree_of c.args._tree.now) program typed
