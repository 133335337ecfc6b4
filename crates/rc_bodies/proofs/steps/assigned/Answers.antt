use Rattle.std.proofs.Common.{◌≡◌, sym, subst, map, IfOk, IfErr}
use Rattle.rc_syntax.specs.Shape as written
use Rattle.rc_core.specs.Shapes.{bytes_of, stmt_of}
use Rattle.rc_core.specs.Programs as p
use Rattle.rc_deletes.specs.Judged.{Judged, Holds}
use Rattle.rc_typed_values.specs.Shapes.{meant_of}
use Rattle.rc_item_rules.specs.Sides.{right_of}
use Rattle.rc_typed_values.specs.Stops.{StopsAt}
use Rattle.rc_defined.specs.Contexts.{context_in, scope_in}
use Rattle.rc_bodies.proofs.Assigned.{assign_is}
use Rattle.rc_bodies.proofs.steps.assigned.Goals as goal

pub returns-clause-ok : goal.returns-clause-ok
returns-clause-ok c =
    let e = assign_is (context_in c.args.environment.now) (scope_in c.args.environment.now) (map bytes_of c.args.strings.now.items) (map bytes_of c.meant.new.strings.items) c.args.at (written.expr_of c.args.l.now) (written.expr_of c.args.r.now) (meant_of c.in_ok-left.left) c.in_ok-left.ensures.ok c.in_ok-left.ensures.strings (right_of c.in_ok-right.right) c.in_ok-right.ensures.ok in
    subst (λ (x : Judged p.Stmt). IfOk c.assigning.result (λ s. x ≡ Holds (stmt_of s.value))) (sym e) c.assigning.ensures.ok

pub returns-clause-err : goal.returns-clause-err
returns-clause-err c =
    let e = assign_is (context_in c.args.environment.now) (scope_in c.args.environment.now) (map bytes_of c.args.strings.now.items) (map bytes_of c.meant.new.strings.items) c.args.at (written.expr_of c.args.l.now) (written.expr_of c.args.r.now) (meant_of c.in_ok-left.left) c.in_ok-left.ensures.ok c.in_ok-left.ensures.strings (right_of c.in_ok-right.right) c.in_ok-right.ensures.ok in
    subst (λ (x : Judged p.Stmt). IfErr c.assigning.result (StopsAt x)) (sym e) c.assigning.ensures.err
