use Rattle.std.proofs.Common.{sym, subst, rules, map}
use Rattle.rc_syntax.specs.Shape.{param_of}
use Rattle.rc_deletes.specs.Judged.{Judged}
use Rattle.rc_deletes.specs.Items.{params_rule}
use Rattle.rc_typed_values.specs.Stops.{StopsAt}
use Rattle.rc_defined.specs.Contexts.{context_of}
use Rattle.rc_bodies.specs.Here.{here_of}
use Rattle.rc_items.proofs.Params.{param_stops}
use Rattle.rc_items.proofs.heads.params_of.Goals as goal

pub returns-in_err-param-clause-err : goal.returns-in_err-param-clause-err
returns-in_err-param-clause-err c =
    let h : StopsAt (params_rule (context_of c.args.context.now) c.args.has_body (here_of c.args.here.now) (map param_of c.args.qs.now)) c.in_err-param.field-0.0 =
    subst (λ (x : Judged (Unit {0})). StopsAt x c.in_err-param.field-0.0) (sym c.loop-q.invariant.same)
    (param_stops (context_of c.args.context.now) c.args.has_body (here_of c.loop-q.here) c.args.qs.now c.loop-q.q-index c.q-item.result c.in_err-param.field-0.0 c.loop-q-test.true c.q-item.is c.in_err-param.ensures.err) in
    search rules
