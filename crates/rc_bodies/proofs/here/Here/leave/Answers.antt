use Rattle.rc_bodies.proofs.Kept.{left_behind}
use Rattle.rc_bodies.proofs.here.Here.leave.Goals as goal

pub returns : goal.returns
returns c = λ before o own e. left_behind before c.args.self.now c.leave.new.self c.args.outer own o c.leave.ensures e
