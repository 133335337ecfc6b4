use Rattle.std.proofs.Common.{◌≡◌, ap, sym, ◌∙◌, subst, map, IfOk, IfErr}
use Rattle.rc_syntax.specs.declared.tree.Spot.{Spot}
use Rattle.rc_syntax.specs.Shape as written
use Rattle.rc_core.specs.Shapes.{bytes_of, stmt_of}
use Rattle.rc_core.specs.Programs as p
use Rattle.rc_deletes.specs.Judged.{Judged, Holds, fitting}
use Rattle.rc_deletes.specs.Statements.{update_of}
use Rattle.rc_typed_values.specs.Shapes.{typed_of, meant_of}
use Rattle.rc_typed_values.specs.Stops.{StopsAt}
use Rattle.rc_defined.specs.Contexts.{context_in, scope_in}
use Rattle.rc_bodies.proofs.Assigned.{update_is}
use Rattle.rc_bodies.proofs.steps.updated.Goals as goal

pub returns-clause-ok : goal.returns-clause-ok
returns-clause-ok c =
    let e = update_is (context_in c.args.environment.now) (scope_in c.args.environment.now) (map bytes_of c.args.strings.now.items) (map bytes_of c.meant.new.strings.items) c.args.at (written.expr_of c.args.l.now) (written.expr_of c.args.r.now) (meant_of c.in_ok-left.left) c.in_ok-left.ensures.ok c.in_ok-left.ensures.strings c.args.op (typed_of c.in_ok-v.v) c.in_ok-v.ensures.ok
    ∙ ap (λ (at : Spot). fitting c.args.at (update_of c.args.at.line at.line c.args.op (meant_of c.in_ok-left.left) (typed_of c.in_ok-v.v))) (sym c.spot_of.ensures) in
    subst (λ (x : Judged p.Stmt). IfOk c.updating.result (λ s. x ≡ Holds (stmt_of s.value))) (sym e) c.updating.ensures.ok

pub returns-clause-err : goal.returns-clause-err
returns-clause-err c =
    let e = update_is (context_in c.args.environment.now) (scope_in c.args.environment.now) (map bytes_of c.args.strings.now.items) (map bytes_of c.meant.new.strings.items) c.args.at (written.expr_of c.args.l.now) (written.expr_of c.args.r.now) (meant_of c.in_ok-left.left) c.in_ok-left.ensures.ok c.in_ok-left.ensures.strings c.args.op (typed_of c.in_ok-v.v) c.in_ok-v.ensures.ok
    ∙ ap (λ (at : Spot). fitting c.args.at (update_of c.args.at.line at.line c.args.op (meant_of c.in_ok-left.left) (typed_of c.in_ok-v.v))) (sym c.spot_of.ensures) in
    subst (λ (x : Judged p.Stmt). IfErr c.updating.result (StopsAt x)) (sym e) c.updating.ensures.err
