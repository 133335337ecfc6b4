use Rattle.std.proofs.Common.{◌++◌, codes, Err, Ok}
use Rattle.std.specs.Fmt.{decimal}
use Rattle.rc_replies.proofs.Written.{until_cut, until_then}
use Rattle.rc_replies.proofs.write.write_numbered.Goals as goal

pub returns-in_default-write_number : goal.returns-in_default-write_number
returns-in_default-write_number g c =
    until_cut (c.args.text.now ++ decimal c.args.number) (codes "\n") (g.O.Sink.state c.args.out.now) (g.O.Sink.state c.write_number.new.out) c.in_default-write_number.field-0
    (until_then c.args.text.now (decimal c.args.number) (g.O.Sink.state c.args.out.now) (g.O.Sink.state c.write_until.new.out) (g.O.Sink.state c.write_number.new.out) c.in-Ok.field-0 (Err c.in_default-write_number.field-0) c.in-Ok.ensures c.in_default-write_number.ensures)

pub returns : goal.returns
returns g c =
    until_then (c.args.text.now ++ decimal c.args.number) (codes "\n") (g.O.Sink.state c.args.out.now) (g.O.Sink.state c.write_number.new.out) (g.O.Sink.state c.write_until-2.new.out) c.in-Ok-write_number.field-0 c.write_until-2.result
    (until_then c.args.text.now (decimal c.args.number) (g.O.Sink.state c.args.out.now) (g.O.Sink.state c.write_until.new.out) (g.O.Sink.state c.write_number.new.out) c.in-Ok.field-0 (Ok c.in-Ok-write_number.field-0) c.in-Ok.ensures c.in-Ok-write_number.ensures)
    c.write_until-2.ensures
