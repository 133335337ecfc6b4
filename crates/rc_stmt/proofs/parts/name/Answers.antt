use Rattle.rc_stmt.proofs.Going.{named_of}
use Rattle.rc_stmt.proofs.parts.name.Goals as goal

pub returns : goal.returns
returns c = named_of c.args.tokens.now c.args.at 1048576 c.name.result c.requires c.name.ensures
