use Rattle.std.proofs.Common.{◌≡◌, map}
use Rattle.rc_syntax.specs.Grammar.{local}
use Rattle.rc_syntax.specs.Shape.{local_of}
use Rattle.rc_stmt.specs.Shapes.{local_declarator_of}
use Rattle.rc_stmt.proofs.locals.locals_of.Given as goal

abbrev pub invariant-loop-declarator : goal.invariant-loop-declarator
invariant-loop-declarator l = map local_of l.locals.items ≡ map (local l.base) (map local_declarator_of l.yielded)
