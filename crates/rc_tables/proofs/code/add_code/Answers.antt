use Rattle.rc_emission.specs.KeptOperands.{same_type}
use Rattle.rc_emission.specs.StackCode.{Line}
use Rattle.rc_lines.specs.Bare.{line_of}
use Rattle.rc_numbering.specs.Names.{instruction_names}
use Rattle.rc_tables.specs.Kept.{all_types}
use Rattle.rc_tables.proofs.Seen.{flat_step}
use Rattle.rc_tables.proofs.code.add_code.Goals as goal

pub loop-line-preserved : goal.loop-line-preserved
loop-line-preserved c =
    flat_step same_type c.args.lines.now c.loop-line.line-index c.line-item.result c.loop-line-test.true c.line-item.is (all_types c.args.types.now) (all_types c.loop-line.types) (all_types c.add_instruction.new.types) (λ (l : Line). instruction_names l.instruction) line_of c.loop-line.invariant c.in_ok-add_instruction.ensures
