use Rattle.rc_slow.proofs.Goings.{asked_leaves, leaves_value, nothing_left, written_leaves}
use Rattle.rc_slow.proofs.outside.perform.Goals as goal

pub returns-in-Onward-clause-leaves : goal.returns-in-Onward-clause-leaves
returns-in-Onward-clause-leaves g c = leaves_value _ _ _ _ tt _ (nothing_left (g.S.Source.state c.args.input.now) (g.O.Sink.state c.args.out.now))

pub returns-in-Ended-clause-leaves : goal.returns-in-Ended-clause-leaves
returns-in-Ended-clause-leaves g c = leaves_value _ _ _ _ tt _ (nothing_left (g.S.Source.state c.args.input.now) (g.O.Sink.state c.args.out.now))

pub returns-in-Asks-clause-leaves : goal.returns-in-Asks-clause-leaves
returns-in-Asks-clause-leaves g c = asked_leaves _ _ (g.O.Sink.state c.args.out.now) c.ask_on.result c.ask_on.ensures.tells c.ask_on.ensures.fault c.ask_on.ensures.cause

pub returns-in-Writes-clause-leaves : goal.returns-in-Writes-clause-leaves
returns-in-Writes-clause-leaves g c = written_leaves (g.S.Source.state c.args.input.now) _ _ c.write_on.result c.write_on.ensures.tells c.write_on.ensures.flushed c.write_on.ensures.fault c.write_on.ensures.cause
