use Rattle.rc_core.specs.Shapes.{program_of}
use Rattle.rc_compile.proofs.compiling.within_bounds.Goals as goal

pub returns-in-Err : goal.returns-in-Err
returns-in-Err c = c.too_much.ensures (program_of c.args.program.now) c.in-Err.ensures
