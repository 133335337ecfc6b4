use Rattle.rc_core.specs.Shapes.{ty_of}
use Rattle.rc_items.proofs.Params.{given_is}
use Rattle.rc_items.proofs.heads.given.Goals as goal

pub returns-in_ok-ty-in-Some-clause-ok : goal.returns-in_ok-ty-in-Some-clause-ok
returns-in_ok-ty-in-Some-clause-ok c = given_is c.args.context.now c.args.gives.now c.in-Some.n (ty_of c.in_ok-ty-in-Some.ty) c.in-Some.is c.in_ok-ty-in-Some.ensures.ok
