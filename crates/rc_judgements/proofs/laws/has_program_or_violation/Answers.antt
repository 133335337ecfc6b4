use Rattle.rc_syntax.specs.Shape as written
use Rattle.rc_judgements.proofs.Typings.{typed_or_faulty}
use Rattle.rc_judgements.proofs.laws.has_program_or_violation.Goals as goal

pub returns : goal.returns
returns c = typed_or_faulty (written.tree_of c.args._tree.now)
