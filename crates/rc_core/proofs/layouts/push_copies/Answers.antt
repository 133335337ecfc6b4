use Rattle.std.proofs.Common.{◌++◌, ◌∙◌, ap}
use Rattle.rc_core.specs.declared.layouts.Kind.TheVariants.{Number}
use Rattle.rc_core.proofs.Laying.{after_ok, same_copies}
use Rattle.rc_core.proofs.layouts.push_copies.Goals as goal

pub returns-then-one-eq1 : goal.returns-then-one-eq1
returns-then-one-eq1 c = after_ok c.push_same.result (λ e. e ∙ ap (λ more. c.args.kinds.now.items ++ more) (same_copies c.args.one.now Number c.args.count c.if-one-eq1.true)) c.push_same.ensures
