use Rattle.std.proofs.Common.{List, arith, refl}
use Rattle.rc_syntax.specs.declared.tree.Expr.{Expr}
use Rattle.rc_syntax.specs.Shape.{expr_of, exprs_of}
use Rattle.rc_deletes.specs.First.{clear}
use Rattle.rc_linking.specs.Calls.{calls_in, calls_in_all}
use Rattle.rc_link.specs.Missed.{missed}
use Rattle.rc_link.proofs.Called.{call_fine, row_fine, row_lost}
use Rattle.rc_link.proofs.missing.+calls_in_expressions.Goals as goal

pub expression-returns-in_ok-called-in-Call : goal.expression-returns-in_ok-called-in-Call
expression-returns-in_ok-called-in-Call t c =
    call_fine c.args.functions.now c.args.e.now c.in-Call.name c.in-Call.given c.deref.result.now c.in_ok-called-in-Call.field-0 c.expressions.result c.in-Call.is c.deref.ensures.value c.in_ok-called-in-Call.ensures c.expressions.ensures

pub expressions-returns-in_err-expression : goal.expressions-returns-in_err-expression
expressions-returns-in_err-expression t c =
    row_lost c.args.functions.now (λ (e : Expr). calls_in (expr_of e)) (λ (es : List Expr). calls_in_all (exprs_of es)) (λ x xs. refl) c.args.es.now c.loop-e.e-index c.e-item.result (omega arith) c.e-item.is
    (clear (missed c.args.functions.now (calls_in_all (exprs_of c.args.es.now)))) c.loop-e.invariant c.from_residual.result c.in_err-expression.field-0.0 c.from_residual.ensures.1 c.in_err-expression.ensures

pub expressions-loop-e-preserved : goal.expressions-loop-e-preserved
expressions-loop-e-preserved t c =
    row_fine c.args.functions.now (λ (e : Expr). calls_in (expr_of e)) (λ (es : List Expr). calls_in_all (exprs_of es)) (λ x xs. refl) c.args.es.now c.loop-e.e-index c.e-item.result (omega arith) c.e-item.is
    (clear (missed c.args.functions.now (calls_in_all (exprs_of c.args.es.now)))) c.loop-e.invariant c.in_ok-expression.field-0 c.in_ok-expression.ensures
