use Rattle.rc_defined.proofs.Contexts.{base_found}
use Rattle.rc_defined.proofs.defined.defined_base.Goals as goal

pub returns-in-Some-clause-ok : goal.returns-in-Some-clause-ok
returns-in-Some-clause-ok c = base_found c.args.context.now c.args.base.now c.in-Struct.field-0 c.in-Struct.name c.in-Some.number c.in-Struct.is c.in-Some.ensures
