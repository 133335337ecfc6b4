use Rattle.std.proofs.Common.{drop, map}
use Rattle.rc_syntax.specs.Shape.{local_of}
use Rattle.rc_deletes.specs.Ranges.{LocalsInRange}
use Rattle.rc_typing.proofs.bounds.locals.Given as goal

abbrev pub invariant-loop-l : goal.invariant-loop-l
invariant-loop-l l = record { rest : LocalsInRange (map local_of (drop l.l-index l.ls)) → LocalsInRange (map local_of l.ls) }
