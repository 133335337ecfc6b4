use Rattle.std.proofs.Common.{◌≡◌, ◌++◌, drop, map}
use Rattle.rc_core.specs.Shapes.{struct_of}
use Rattle.rc_defined.specs.Fields.{struct_in}
use Rattle.rc_typing.proofs.checking.structs_of.Given as goal

abbrev pub invariant-loop-s : goal.invariant-loop-s
invariant-loop-s l = record { same : map struct_in l.context.structs.items ≡ map struct_of l.structs.items ++ map struct_in (drop l.s-index l.context.structs.items) }
