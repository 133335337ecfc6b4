use Rattle.std.proofs.Common.{rules}
use Rattle.rc_syntax.specs.Shape.{param_of}
use Rattle.rc_core.specs.Shapes.{ty_of}
use Rattle.rc_defined.specs.Contexts.{context_of}
use Rattle.rc_bodies.specs.Here.{here_of}
use Rattle.rc_items.proofs.Params.{name_stops, own_stops}
use Rattle.rc_items.proofs.heads.param.Goals as goal

pub returns-in_err-param_name-clause-err : goal.returns-in_err-param_name-clause-err
returns-in_err-param_name-clause-err c =
    let h = name_stops (context_of c.args.context.now) c.args.has_body (here_of c.args.here.now) (param_of c.args.q.now) c.in_ok-ty.ensures.ok.0 c.in_err-param_name.field-0.0 c.in_err-param_name.ensures.err in
    search rules

pub returns-in_err-refuse_where-clause-err : goal.returns-in_err-refuse_where-clause-err
returns-in_err-refuse_where-clause-err c =
    let h = own_stops (context_of c.args.context.now) c.args.has_body (here_of c.args.here.now) (param_of c.args.q.now) c.in_ok-ty.ensures.ok.0 (ty_of c.in_ok-ty.ty) c.is_unfit.result c.in_err-refuse_where.field-0.0
    c.in_ok-param_name.ensures.ok c.in_ok-ty.ensures.ok.1 c.is_unfit.ensures c.in_err-refuse_where.ensures.broken c.in_err-refuse_where.ensures.err in
    search rules
