use Rattle.rc_syntax.specs.Shape as written
use Rattle.rc_judgements.proofs.WellTyped.{fits_together}
use Rattle.rc_judgements.proofs.laws.fits_together.Goals as goal

pub returns : goal.returns
returns c = λ program numbers limits bytes typed. fits_together (written.tree_of c.args._tree.now) program numbers limits bytes typed
