use Rattle.rc_answers.proofs.Written.{line_cut, line_cut_behind, line_whole}
use Rattle.rc_answers.proofs.telling.write_line.Goals as goal

pub returns-in_default : goal.returns-in_default
returns-in_default g c = line_cut c.args.line.text.now c.args.line.first c.args.line.second (g.E.Sink.state c.args.err.now) (g.E.Sink.state c.write_all.new.out) c.in_default.field-0 c.in_default.ensures

pub returns-in_default-write_numbered : goal.returns-in_default-write_numbered
returns-in_default-write_numbered g c = line_cut_behind c.args.line.text.now c.args.line.first c.args.line.second c.in-Some.first (g.E.Sink.state c.args.err.now) (g.E.Sink.state c.write_all.new.out) (g.E.Sink.state c.write_numbered.new.err) c.in-Ok.field-0 c.in_default-write_numbered.field-0 c.in-Some.is c.in-Ok.ensures c.in_default-write_numbered.ensures

pub returns : goal.returns
returns g c = line_whole c.args.line.text.now c.args.line.first c.args.line.second c.in-Some.first c.in-Some-second.second (g.E.Sink.state c.args.err.now) (g.E.Sink.state c.write_all.new.out) (g.E.Sink.state c.write_numbered.new.err) (g.E.Sink.state c.write_numbered-2.new.err) c.in-Ok.field-0 c.in-Ok-write_numbered.field-0 c.write_numbered-2.result c.in-Some.is c.in-Some-second.is c.in-Ok.ensures c.in-Ok-write_numbered.ensures c.write_numbered-2.ensures
