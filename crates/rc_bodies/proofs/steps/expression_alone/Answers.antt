use Rattle.std.proofs.Common.{◌≡◌, ap, sym, ◌∙◌, subst, map, IfOk, IfErr}
use Rattle.rc_syntax.specs.Shape as written
use Rattle.rc_syntax.specs.Tree as t
use Rattle.rc_syntax.proofs.Rows.{call_is}
use Rattle.rc_core.specs.Programs as p
use Rattle.rc_core.specs.Shapes.{bytes_of, stmt_of}
use Rattle.rc_deletes.specs.Judged.{Judged, Holds}
use Rattle.rc_deletes.specs.Statements.{expression_alone}
use Rattle.rc_typed_values.specs.Stops.{StopsAt}
use Rattle.rc_defined.specs.Contexts.{context_in, scope_in}
use Rattle.rc_bodies.proofs.Alones.{alone_is}
use Rattle.rc_bodies.proofs.steps.expression_alone.Goals as goal

pub returns-in-Call-clause-err : goal.returns-in-Call-clause-err
returns-in-Call-clause-err c =
    let e = call_is c.args.e.now c.in-Call.name c.in-Call.given c.in-Call.is ∙ ap (λ es. t.call c.in-Call.name (written.exprs_of es)) (sym c.deref.ensures.value) in
    subst (λ (x : t.Expr). IfErr c.call_alone.result (StopsAt (expression_alone (context_in c.args.environment.now) (scope_in c.args.environment.now) (map bytes_of c.args.strings.now.items) x))) (sym e) c.call_alone.ensures.err

pub returns-in_default-clause-ok : goal.returns-in_default-clause-ok
returns-in_default-clause-ok c =
    let e = alone_is (context_in c.args.environment.now) (scope_in c.args.environment.now) (map bytes_of c.args.strings.now.items) c.args.e.now c.in_default.not-Call in
    subst (λ (x : Judged p.Stmt). IfOk c.value_alone.result (λ s. x ≡ Holds (stmt_of s.value))) (sym e) c.value_alone.ensures.ok

pub returns-in_default-clause-err : goal.returns-in_default-clause-err
returns-in_default-clause-err c =
    let e = alone_is (context_in c.args.environment.now) (scope_in c.args.environment.now) (map bytes_of c.args.strings.now.items) c.args.e.now c.in_default.not-Call in
    subst (λ (x : Judged p.Stmt). IfErr c.value_alone.result (StopsAt x)) (sym e) c.value_alone.ensures.err
