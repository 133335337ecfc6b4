use Rattle.std.proofs.Common.{◌≡◌, drop}
use Rattle.rc_syntax.specs.Shape.{exprs_of}
use Rattle.rc_deletes.specs.First.{clear}
use Rattle.rc_linking.specs.Calls.{calls_in_all}
use Rattle.rc_link.specs.Missed.{missed}
use Rattle.rc_link.proofs.missing.+calls_in_expressions.Given as goal

abbrev pub invariant-expressions-loop-e : goal.invariant-expressions-loop-e
invariant-expressions-loop-e l = clear (missed l.functions (calls_in_all (exprs_of l.es))) ≡ clear (missed l.functions (calls_in_all (exprs_of (drop l.e-index l.es))))
