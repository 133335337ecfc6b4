use Rattle.std.proofs.Common.{◌∙◌, ap}
use Rattle.rc_syntax.specs.Shape.{stmt_of, stmts_of as all_of}
use Rattle.rc_syntax.specs.Grammar.{joined}
use Rattle.rc_syntax.specs.Tree as t
use Rattle.rc_stmt.proofs.Stated.{all_with_last}
use Rattle.rc_stmt.proofs.blocks.with_statement.Goals as goal

pub returns-clause-ok : goal.returns-clause-ok
returns-clause-ok c = ap all_of c.in_ok-add.ensures.ok ∙ all_with_last c.args.before.items c.into_inner.result ∙ ap (λ s. joined (all_of c.args.before.items) (t.next (stmt_of s) t.done)) c.into_inner.ensures
