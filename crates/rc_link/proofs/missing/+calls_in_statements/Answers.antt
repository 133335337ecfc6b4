use Rattle.std.proofs.Common.{List, arith, refl}
use Rattle.rc_syntax.specs.declared.tree.Stmt.{Stmt}
use Rattle.rc_syntax.specs.Shape.{stmt_of, stmts_of}
use Rattle.rc_deletes.specs.First.{clear}
use Rattle.rc_linking.specs.Calls.{calls_in_stmt, calls_in_stmts}
use Rattle.rc_link.specs.Missed.{missed}
use Rattle.rc_link.proofs.Called.{row_fine, row_lost}
use Rattle.rc_link.proofs.missing.+calls_in_statements.Goals as goal

pub statements-returns-in_err-statement : goal.statements-returns-in_err-statement
statements-returns-in_err-statement t c =
    row_lost c.args.functions.now (λ (s : Stmt). calls_in_stmt (stmt_of s)) (λ (ss : List Stmt). calls_in_stmts (stmts_of ss)) (λ x xs. refl) c.args.body.now c.loop-s.s-index c.s-item.result (omega arith) c.s-item.is
    (clear (missed c.args.functions.now (calls_in_stmts (stmts_of c.args.body.now)))) c.loop-s.invariant c.from_residual.result c.in_err-statement.field-0.0 c.from_residual.ensures.1 c.in_err-statement.ensures

pub statements-loop-s-preserved : goal.statements-loop-s-preserved
statements-loop-s-preserved t c =
    row_fine c.args.functions.now (λ (s : Stmt). calls_in_stmt (stmt_of s)) (λ (ss : List Stmt). calls_in_stmts (stmts_of ss)) (λ x xs. refl) c.args.body.now c.loop-s.s-index c.s-item.result (omega arith) c.s-item.is
    (clear (missed c.args.functions.now (calls_in_stmts (stmts_of c.args.body.now)))) c.loop-s.invariant c.in_ok-statement.field-0 c.in_ok-statement.ensures
