use Rattle.rc_boundaries.proofs.Handing.{given_ready}
use Rattle.rc_boundaries.proofs.returns.leave_at.Goals as goal

pub give-requires-clause-given : goal.give-requires-clause-given
give-requires-clause-given c = given_ready c.args.node.now c.in-Return.variable c.args.exit.result c.in-Return.is c.requires.ready
