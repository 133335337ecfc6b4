use Rattle.std.proofs.Common.{◌≡◌, ap, sym, ◌∙◌, subst, option_map, rules, IfOk, IfErr}
use Rattle.rc_syntax.specs.Shape.{local_of}
use Rattle.rc_core.specs.Shapes.{ty_of, stmt_of}
use Rattle.rc_core.specs.Programs as p
use Rattle.rc_deletes.specs.Judged.{Judged, Holds, fitting}
use Rattle.rc_typed_values.specs.Shapes.{typed_of}
use Rattle.rc_typed_values.specs.Stops.{StopsAt}
use Rattle.rc_defined.specs.Contexts.{context_of}
use Rattle.rc_bodies.specs.Here.{here_of}
use Rattle.rc_defined.proofs.Lists.{on_any}
use Rattle.rc_bodies.proofs.Declared.{initial_stops, local_is, local_behind}
use Rattle.rc_bodies.proofs.locals.local.Goals as goal

pub returns-in_err-initial-clause-err : goal.returns-in_err-initial-clause-err
returns-in_err-initial-clause-err c =
    let h = initial_stops (context_of c.args.context.now) (here_of c.args.here.now) (here_of c.named_local.new.here) (local_of c.args.l.now) (ty_of c.in_ok-ty.ty) c.in_ok-number.number c.in_ok-number.ensures.ok c.in_ok-ty.ensures.ok.0 c.in_ok-ty.ensures.ok.1 c.in_ok-number.ensures.behind
    c.in_err-initial.field-0.0 c.in_ok-new_name.ensures.ok c.in_err-initial.ensures.err in
    search rules

pub returns-clause-ok : goal.returns-clause-ok
returns-clause-ok c =
    let e = local_is (context_of c.args.context.now) (here_of c.args.here.now) (here_of c.named_local.new.here) (local_of c.args.l.now) (ty_of c.in_ok-ty.ty) c.in_ok-number.number c.in_ok-number.ensures.ok c.in_ok-ty.ensures.ok.0 c.in_ok-ty.ensures.ok.1 c.in_ok-number.ensures.behind
    (option_map typed_of c.in_ok-initial.initial) c.in_ok-new_name.ensures.ok c.in_ok-initial.ensures.ok
    ∙ ap (fitting c.args.l.now.spot) c.in_ok-step.ensures.ok in
    subst (λ (x : Judged p.Stmt). IfOk c.fitting.result (λ s. x ≡ Holds (stmt_of s.value))) (sym e) c.fitting.ensures.ok

pub returns-clause-err : goal.returns-clause-err
returns-clause-err c =
    let e = local_is (context_of c.args.context.now) (here_of c.args.here.now) (here_of c.named_local.new.here) (local_of c.args.l.now) (ty_of c.in_ok-ty.ty) c.in_ok-number.number c.in_ok-number.ensures.ok c.in_ok-ty.ensures.ok.0 c.in_ok-ty.ensures.ok.1 c.in_ok-number.ensures.behind
    (option_map typed_of c.in_ok-initial.initial) c.in_ok-new_name.ensures.ok c.in_ok-initial.ensures.ok
    ∙ ap (fitting c.args.l.now.spot) c.in_ok-step.ensures.ok in
    subst (λ (x : Judged p.Stmt). IfErr c.fitting.result (StopsAt x)) (sym e) c.fitting.ensures.err

pub returns-clause-behind : goal.returns-clause-behind
returns-clause-behind c =
    on_any c.fitting.result (local_behind (context_of c.args.context.now) (here_of c.args.here.now) (here_of c.named_local.new.here) (local_of c.args.l.now) (ty_of c.in_ok-ty.ty) c.in_ok-number.number c.in_ok-number.ensures.ok c.in_ok-ty.ensures.ok.0 c.in_ok-ty.ensures.ok.1 c.in_ok-number.ensures.behind
    (here_of c.own_value.new.here) c.in_ok-initial.ensures.behind)
