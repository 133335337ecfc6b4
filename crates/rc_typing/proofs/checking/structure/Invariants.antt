use Rattle.std.proofs.Common.{◌≡◌, ◌++◌, drop, map}
use Rattle.rc_core.specs.Shapes.{field_of}
use Rattle.rc_typing.proofs.Programs.{own_field}
use Rattle.rc_typing.proofs.checking.structure.Given as goal

abbrev pub invariant-loop-named : goal.invariant-loop-named
invariant-loop-named l = record { same : map own_field l.s.fields.items ≡ map field_of l.fields.items ++ map own_field (drop l.named-index l.s.fields.items) }
