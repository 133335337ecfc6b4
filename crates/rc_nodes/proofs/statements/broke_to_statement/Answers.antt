use Rattle.std.proofs.Common.{◌∙◌, ap, sym}
use Rattle.rc_core.specs.Shapes.{stmt_of}
use Rattle.rc_frames.specs.Codes.{stage_of}
use Rattle.rc_nodes.specs.Stepping.{doing, break_step}
use Rattle.rc_nodes.proofs.statements.broke_to_statement.Goals as goal

pub returns-in-Body : goal.returns-in-Body
returns-in-Body c = λ program frames env.
    ap (λ k. doing k frames env) (c.broke_to_loop.ensures program)
    ∙ sym (ap (λ t. break_step program (stmt_of c.args.s.now) (stage_of (stmt_of c.args.s.now) t) frames env) c.in-Body.is)
