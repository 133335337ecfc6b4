use Rattle.std.proofs.Common.{◌∙◌}
use Rattle.rc_scope.proofs.Keys.{found}
use Rattle.rc_scope.proofs.Numbers.{none_where_unknown, stands}
use Rattle.rc_scope.proofs.names.Names.find.Goals as goal

pub returns-clause-number : goal.returns-clause-number
returns-clause-number c = found c.self.inside.names.keys c.args.self.now c.self.view_is c.args.name.now _ c.in_ok-place.ensures.index

pub returns-clause-none : goal.returns-clause-none
returns-clause-none c = none_where_unknown c.args.self.now c.args.name.now _ (returns-clause-number c)

pub returns-clause-stands : goal.returns-clause-stands
returns-clause-stands c = stands c.args.self.now c.args.name.now _ (returns-clause-number c)

pub returns-in_err-place-clause-number : goal.returns-in_err-place-clause-number
returns-in_err-place-clause-number c = c.from_residual.ensures ∙ found c.self.inside.names.keys c.args.self.now c.self.view_is c.args.name.now _ c.in_err-place.ensures.index

pub returns-in_err-place-clause-none : goal.returns-in_err-place-clause-none
returns-in_err-place-clause-none c = none_where_unknown c.args.self.now c.args.name.now _ (returns-in_err-place-clause-number c)
