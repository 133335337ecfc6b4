use Rattle.std.proofs.Common.{ap, sym, ◌∙◌, length, arith}
use Rattle.rc_core.specs.Shapes.{struct_of}
use Rattle.rc_defined.specs.Fields.{struct_in}
use Rattle.rc_defined.proofs.Contexts.{structs_are}
use Rattle.rc_typing.proofs.Programs.{made_end}
use Rattle.rc_typing.proofs.checking.structs_of.Goals as goal

pub returns-clause-ok : goal.returns-clause-ok
returns-clause-ok c =
    let all = c.args.context.now.structs.items in
    sym (structs_are c.args.context.now ∙ c.loop-s.invariant.same
    ∙ made_end struct_in struct_of all c.loop-s.s-index c.loop-s.structs.items (omega (arith, ap length c.deref-s-items.ensures.value)))
