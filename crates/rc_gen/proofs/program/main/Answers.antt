use Rattle.rc_gen.specs.Program.{main_begins, main_ends}
use Rattle.rc_gen.proofs.Lines.{main_in_parts}
use Rattle.rc_gen.proofs.program.main.Goals as goal

pub returns : goal.returns
unfolding main_begins main_ends
returns c = main_in_parts c.args.n c.args.count c.args.text.now c.line.new.self c.calls.new.text c.line-2.new.self c.in_ok-line.ensures c.in_ok-calls.ensures c.in_ok-line-2.ensures
