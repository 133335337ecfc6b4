use Rattle.rc_syntax.specs.Shape.{tree_of}
use Rattle.rc_compile.proofs.Found.{program_found}
use Rattle.rc_core.specs.Shapes.{program_of}
use Rattle.rc_compile.proofs.Limits.{is_written}
use Rattle.rc_compile.proofs.compiling.typed.Goals as goal

pub check-requires : goal.check-requires
check-requires c = is_written c.args._text.now (tree_of c.args.tree.now) c.requires

pub returns-in-Ok : goal.returns-in-Ok
returns-in-Ok c = program_found c.args._text.now (tree_of c.args.tree.now) (program_of c.in-Ok.program) c.requires c.in-Ok.ensures

pub returns-in-Err : goal.returns-in-Err
returns-in-Err c = c.reason.ensures c.args._text.now (tree_of c.args.tree.now) c.requires c.in-Err.ensures
