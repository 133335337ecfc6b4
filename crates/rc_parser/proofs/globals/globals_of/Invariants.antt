use Rattle.std.proofs.Common.{◌≡◌, map}
use Rattle.rc_syntax.specs.Grammar.{global}
use Rattle.rc_syntax.specs.Shape.{item_of}
use Rattle.rc_parser.specs.Shapes.{global_of}
use Rattle.rc_parser.proofs.globals.globals_of.Given as goal

abbrev pub invariant-loop-declarator : goal.invariant-loop-declarator
invariant-loop-declarator l = map item_of l.globals.items ≡ map (global l.base) (map global_of l.yielded)
