use Rattle.rc_defined.proofs.ByValue.{value_found}
use Rattle.rc_defined.proofs.by_value.struct_before.Goals as goal

pub returns-then-number-count-clause-ok : goal.returns-then-number-count-clause-ok
returns-then-number-count-clause-ok c = value_found c.args.context.now c.args.name.now c.in-Some.number c.args.count c.in-Some.ensures c.if-number-count.true
