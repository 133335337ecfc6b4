use Rattle.std.proofs.Common.{drop}
use Rattle.rc_syntax.specs.Shape.{exprs_of}
use Rattle.rc_deletes.specs.Ranges.{AreInRange}
use Rattle.rc_typing.proofs.bounds.+expressions.Given as goal

abbrev pub invariant-expressions-loop-e : goal.invariant-expressions-loop-e
invariant-expressions-loop-e l = record { rest : AreInRange (exprs_of (drop l.e-index l.es)) → AreInRange (exprs_of l.es) }
