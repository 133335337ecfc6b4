use Rattle.std.proofs.Common.{ap, sym, ◌∙◌, length, arith}
use Rattle.rc_core.specs.Shapes.{field_of}
use Rattle.rc_typing.proofs.Programs.{own_field, own_fields, made_end}
use Rattle.rc_typing.proofs.checking.structure.Goals as goal

pub returns-clause-ok : goal.returns-clause-ok
returns-clause-ok c =
    sym (own_fields c.args.s.now.fields.items ∙ c.loop-named.invariant.same
    ∙ made_end own_field field_of c.args.s.now.fields.items c.loop-named.named-index c.loop-named.fields.items (omega (arith, ap length c.deref-named-items.ensures.value)))
