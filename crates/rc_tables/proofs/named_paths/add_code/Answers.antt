use Rattle.rc_emission.specs.StackCode.{Line}
use Rattle.rc_lines.specs.Bare.{line_of}
use Rattle.rc_numbering.specs.Names.{instruction_paths, same_path}
use Rattle.rc_tables.specs.Numbers.{number_in}
use Rattle.rc_tables.proofs.Seen.{flat_step}
use Rattle.rc_tables.proofs.named_paths.add_code.Goals as goal

pub loop-line-preserved : goal.loop-line-preserved
loop-line-preserved c =
    flat_step same_path c.args.lines.now c.loop-line.line-index c.line-item.result c.loop-line-test.true c.line-item.is c.args.paths.now c.loop-line.paths c.add_instruction.new.paths (λ (l : Line). instruction_paths (number_in c.args.types.now) l.instruction) line_of c.loop-line.invariant c.in_ok-add_instruction.ensures
