use Rattle.std.proofs.Common.{ap, ◌∙◌, map}
use Rattle.rc_syntax.specs.Shape.{param_of, stmts_of}
use Rattle.rc_deletes.specs.Statements.{outside, behind_stmts}
use Rattle.rc_defined.specs.Contexts.{context_of}
use Rattle.rc_bodies.specs.Here.{here_of}
use Rattle.rc_items.proofs.Functions.{own_names}
use Rattle.rc_items.proofs.walk.body_of.Goals as goal

pub returns-clause-behind : goal.returns-clause-behind
returns-clause-behind c =
    let context = context_of c.args.context.now in
    let own = own_names context (here_of c.args.here.now) (here_of c.params_of.new.here) (here_of c.stmts.new.here) (map param_of c.args.params.now) (stmts_of c.args.body.now) c.in_ok-params_of.ensures.behind c.in_ok-steps.ensures.behind in
    c.leave.ensures c.args.here.now c.outer-outer.ensures own.0 own.1
    ∙ ap (λ h. outside (here_of c.args.here.now) h) (c.in_ok-steps.ensures.behind ∙ ap (λ h. behind_stmts context h (stmts_of c.args.body.now)) c.in_ok-params_of.ensures.behind)
