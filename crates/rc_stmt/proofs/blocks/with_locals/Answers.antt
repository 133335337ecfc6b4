use Rattle.std.proofs.Common.{◌∙◌, ap, sym}
use Rattle.rc_syntax.specs.Shape.{stmts_of as all_of}
use Rattle.rc_stmt.proofs.Stated.{joined_done, with_local}
use Rattle.rc_stmt.proofs.blocks.with_locals.Goals as goal

pub loop-local-init : goal.loop-local-init
loop-local-init c = sym (joined_done (all_of c.args.before.items))

pub loop-local-preserved : goal.loop-local-preserved
loop-local-preserved c =
    ap all_of c.in_ok-add.ensures.ok ∙ with_local c.loop-local.statements.items (all_of c.args.before.items) c.loop-local.yielded c.in-Some.local c.loop-local.invariant
