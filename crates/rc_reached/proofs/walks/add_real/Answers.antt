use Rattle.rc_reached.proofs.Along.{walked_nowhere}
use Rattle.rc_reached.proofs.walks.add_real.Goals as goal

pub returns-then-index-eq1 : goal.returns-then-index-eq1
returns-then-index-eq1 c = walked_nowhere c.args.real.now.items c.args.index c.if-index-eq1.true
