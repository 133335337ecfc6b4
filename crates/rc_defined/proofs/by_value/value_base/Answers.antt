use Rattle.std.proofs.Common.{subst, sym, IfErr}
use Rattle.rc_deletes.specs.Items as rule
use Rattle.rc_typed_values.specs.Stops.{StopsAt}
use Rattle.rc_defined.specs.Contexts.{context_of}
use Rattle.rc_defined.proofs.by_value.value_base.Goals as goal

pub returns-in-Struct-clause-err : goal.returns-in-Struct-clause-err
returns-in-Struct-clause-err c = subst (λ b. IfErr c.struct_before.result (StopsAt (rule.value_base (context_of c.args.context.now) c.args.count b))) (sym c.in-Struct.is) c.struct_before.ensures.err
