use Rattle.rc_loader.proofs.Coded.{coded_same}
use Rattle.rc_loader.proofs.operand.Operand.is.Goals as goal

pub returns : goal.returns
returns c = coded_same c.args.self.code c.args.other.code
