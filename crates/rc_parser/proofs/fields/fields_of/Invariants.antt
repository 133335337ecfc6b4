use Rattle.std.proofs.Common.{◌≡◌, map}
use Rattle.rc_syntax.specs.Grammar.{field}
use Rattle.rc_syntax.specs.Shape.{field_of}
use Rattle.rc_parser.specs.Shapes.{declarator_of}
use Rattle.rc_parser.proofs.fields.fields_of.Given as goal

abbrev pub invariant-loop-declarator : goal.invariant-loop-declarator
invariant-loop-declarator l = map field_of l.fields.items ≡ map (field l.base) (map declarator_of l.yielded)
