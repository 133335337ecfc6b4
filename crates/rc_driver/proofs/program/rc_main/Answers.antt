use Rattle.rc_outcomes.specs.Outside.{outside}
use Rattle.rc_driver.specs.Headline.{asked}
use Rattle.rc_driver.proofs.Served.{serves}
use Rattle.rc_driver.proofs.program.rc_main.Goals as goal

pub tell-requires : goal.tell-requires
tell-requires g c = (c.perform-answer.ensures (g.E.Sink.state c.args.err.now)).no_error

pub returns : goal.returns
returns g c = serves (asked c.args.words.now) (outside (g.F.Shelf.state c.args.files.now) (g.S.Source.state c.args.input.now) (g.O.Sink.state c.args.out.now) (g.E.Sink.state c.args.err.now) (g.H.Heap.store c.args.heap.now)) (g.F.Shelf.state c.perform-answer.new.files) (g.S.Source.state c.perform-answer.new.input) (g.O.Sink.state c.perform-answer.new.out) (g.E.Sink.state c.tell.new.err) (g.H.Heap.store c.perform-answer.new.heap) c.perform-answer.result c.tell.result (c.perform-answer.ensures (g.E.Sink.state c.args.err.now)) c.tell.ensures.tells c.tell.ensures.told
