use Rattle.std.proofs.Common.{◌≡◌, ap, sym, subst, IfOk, IfErr}
use Rattle.rc_core.specs.Shapes.{stmt_of}
use Rattle.rc_core.specs.Programs as p
use Rattle.rc_deletes.specs.Judged.{Judged, Holds, fitting}
use Rattle.rc_item_rules.specs.Sizes.{TellSmall}
use Rattle.rc_typed_values.specs.Stops.{StopsAt}
use Rattle.rc_defined.specs.Contexts.{context_in}
use Rattle.rc_bodies.proofs.Cells.{tell_small}
use Rattle.rc_bodies.proofs.steps.assigning.Goals as goal

pub returns-clause-ok : goal.returns-clause-ok
returns-clause-ok c =
    let small = subst (TellSmall (context_in c.args.environment.now)) (sym c.as_slice-sizes.ensures.value) (tell_small c.args.environment.now.context.now) in
    let e = ap (fitting c.args.at) (c.in_ok-step.ensures.ok (context_in c.args.environment.now) small) in
    subst (λ (x : Judged p.Stmt). IfOk c.fitting.result (λ s. x ≡ Holds (stmt_of s.value))) (sym e) c.fitting.ensures.ok

pub returns-clause-err : goal.returns-clause-err
returns-clause-err c =
    let small = subst (TellSmall (context_in c.args.environment.now)) (sym c.as_slice-sizes.ensures.value) (tell_small c.args.environment.now.context.now) in
    let e = ap (fitting c.args.at) (c.in_ok-step.ensures.ok (context_in c.args.environment.now) small) in
    subst (λ (x : Judged p.Stmt). IfErr c.fitting.result (StopsAt x)) (sym e) c.fitting.ensures.err
