use Rattle.rc_answers.specs.LineBytes.{line_bytes}
use Rattle.rc_answers.proofs.ToldLaws.{flushed_front}
use Rattle.rc_answers.proofs.telling.flush_line.Goals as goal

pub returns-clause-failed : goal.returns-clause-failed
returns-clause-failed g c = flushed_front (line_bytes c.args.line) (g.E.Sink.state c.args.err.now) (g.E.Sink.state c.write_line.new.err) (g.E.Sink.state c.flush.new.self) c.in_ok-write_line.field-0 c.flush.result c.in_ok-write_line.ensures c.flush.ensures
